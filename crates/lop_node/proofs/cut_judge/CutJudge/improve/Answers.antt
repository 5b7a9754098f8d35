use Rattle.std.proofs.Common.{◌≡◌, ◌∙◌, refl, sym, subst, ℕ, List, ◌≤ℤ◌, rules, FitsSigned}
use Rattle.std.specs.Int.{w128}
use Rattle.std.proofs.lemmas.Int.{to_z-of_z}
use Rattle.lop_model.specs.declared.pair.Pair.{Pair}
use Rattle.lop_model.specs.Fixings.{IsClosure, IsUndecided}
use Rattle.lop_leaf.specs.Record.{FitTerms, HasCutsBelow}
use Rattle.lop_node.proofs.BetterLemmas.{put_shown, not_above, itself}
use Rattle.lop_node.proofs.cut_judge.CutJudge.improve.Goals as goal

pub returns-then-before-bound-clause-sound : goal.returns-then-before-bound-clause-sound
returns-then-before-bound-clause-sound c =
    let C = c.args.weights.now in
    let t = c.args.ticket.now in
    let f = c.fix_path.new.fixings in
    let p : Pair = c.branching_pair-pair.result in
    let old = c.args.into.now in
    let fits : FitsSigned w128 c.bound-before.result = search rules in
    let closure : IsClosure t.path f.pairs = subst (λ (F : List Pair). IsClosure F f.pairs) c.path.ensures.path c.fix_path.ensures.closure in
    let size : f.size ≡ C.size = c.fix_path.ensures.size ∙ c.self.invariant.0 ∙ c.self.view_is ∙ c.requires.same_n in
    let undecided : IsUndecided C.size f.pairs p.before p.after = subst (λ (n : ℕ). IsUndecided n f.pairs p.before p.after) size c.branching_pair-pair.ensures in
    put_shown C t old c.put_better.new.into f.pairs old.bound p old.shown _ _ _ _ c.put_better.ensures.put refl (to_z-of_z w128 c.bound-before.result fits ∙ c.bound-before.ensures) (c.show.ensures.shown ∙ c.shown.ensures)
    c.requires.sound closure undecided c.requires.sound.cuts (c.requires.sound.bound f.pairs closure) (itself old.bound) c.put_better.ensures.order

pub returns-else-before-bound-clause-sound : goal.returns-else-before-bound-clause-sound
returns-else-before-bound-clause-sound c =
    let C = c.args.weights.now in
    let t = c.args.ticket.now in
    let f = c.fix_path.new.fixings in
    let p : Pair = c.branching_pair-pair.result in
    let b = c.record_bound-bound.result in
    let old = c.args.into.now in
    let shown = c.rounded.result.now in
    let fits : FitsSigned w128 c.bound-before.result = search rules in
    let fits_bound : FitsSigned w128 b = search rules in
    let bound = to_z-of_z w128 b fits_bound in
    let closure : IsClosure t.path f.pairs = subst (λ (F : List Pair). IsClosure F f.pairs) c.path.ensures.path c.fix_path.ensures.closure in
    let size : f.size ≡ C.size = c.fix_path.ensures.size ∙ c.self.invariant.0 ∙ c.self.view_is ∙ c.requires.same_n in
    let rooms : c.prune.new.self.size ≡ C.size = c.prune.ensures ∙ c.run.ensures ∙ c.self.invariant.2 ∙ c.self.view_is ∙ c.requires.same_n in
    let undecided : IsUndecided C.size f.pairs p.before p.after = subst (λ (n : ℕ). IsUndecided n f.pairs p.before p.after) size c.branching_pair-pair.ensures in
    let fit : FitTerms C.size shown.terms = subst (λ (n : ℕ). FitTerms n shown.terms) rooms c.rounded.ensures.fit in
    let cuts : HasCutsBelow C.size shown.terms = record { cuts = c.record_bound-bound.ensures.terms.cuts; fit = fit } in
    let lesser : b ≤ℤ old.bound = not_above _ _ old.bound b c.if-before-bound.false (to_z-of_z w128 c.bound-before.result fits ∙ c.bound-before.ensures) bound in
    put_shown C t old c.put_better-else-before-bound.new.into f.pairs b p shown _ _ _ _ c.put_better-else-before-bound.ensures.put refl bound (sym c.rounded.ensures.value)
    c.requires.sound closure undecided cuts c.record_bound-bound.ensures.quotient lesser c.put_better-else-before-bound.ensures.order
