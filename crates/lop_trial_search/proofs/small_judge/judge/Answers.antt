use Rattle.std.proofs.Common.{◌≡◌, ◌∙◌, sym, subst, List, ℕ, FitsSigned, rules, to_z, of_z}
use Rattle.std.proofs.lemmas.Int.{to_z-of_z}
use mir.Syntax.{w128}
use Rattle.lop_model.specs.declared.pair.Pair.{Pair}
use Rattle.lop_model.specs.Fixings.{IsClosure}
use Rattle.lop_fix.specs.PartialOrder.{IsFirstUndecided}
use Rattle.lop_trial_search.proofs.JudgeLemmas.{path_objects, judged, at_most}
use Rattle.lop_trial_search.proofs.small_judge.judge.Goals as goal

pub of_path-requires : goal.of_path-requires
of_path-requires c = rw (c.path.ensures.path, c.requires.fixings) (path_objects c.args.weights.now.size c.args.ticket.now.path c.requires.ticket.branching)

pub value-weight-requires : goal.value-weight-requires
value-weight-requires c = c.requires.order.complete

pub put-requires : goal.put-requires
put-requires c = c.requires.order.complete ∙ sym c.requires.into

pub returns : goal.returns
returns c t =
    let G = c.of_path.new.self.pairs in
    let closure : IsClosure c.args.ticket.now.path c.of_path.new.self.pairs = subst (λ (p : List Pair). IsClosure p c.of_path.new.self.pairs) c.path.ensures.path c.in-Ok.ensures.ok.1 in
    let size : c.of_path.new.self.size ≡ c.args.weights.now.size = c.in-Ok.ensures.size ∙ c.requires.fixings in
    let first = subst (λ (n : ℕ). IsFirstUndecided n c.of_path.new.self.pairs c.in-Some.pair.before c.in-Some.pair.after) size c.in-Some.ensures.some in
    let fits : FitsSigned w128 c.packing-bound.result = search rules in
    let fits_value : FitsSigned w128 c.value-weight.result = search rules in
    let fits_bound : FitsSigned w128 c.bound.result = search rules in
    let whole = to_z-of_z w128 c.packing-bound.result fits in
    let least = at_most (to_z w128 (of_z w128 c.bound.result)) (to_z w128 (of_z w128 c.packing-bound.result)) c.args.ticket.now.bound c.if-bound.false (to_z-of_z w128 c.bound.result fits_bound ∙ c.bound.ensures) in
    rw (c.put.ensures, c.node.ensures)
    (judged c.args.weights.now c.args.ticket.now c.of_path.new.self.pairs _ c.in-Some.pair c.packing-bound.new.rec c.args.order.now _ c.requires.ticket closure
    (whole ∙ c.packing-bound.ensures.value) (whole ∙ c.packing-bound.ensures.shown) c.packing-bound.ensures.record c.packing-bound.ensures.cuts least first c.requires.order
    (to_z-of_z w128 c.value-weight.result fits_value ∙ c.value-weight.ensures.value))
