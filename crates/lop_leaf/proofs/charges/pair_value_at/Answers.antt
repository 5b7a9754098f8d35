use Rattle.std.proofs.Common.{◌≡◌, ◌∙◌, refl, false, true, rules, FitsSigned, arith}
use Rattle.std.specs.Int.{w128, int_max}
use Rattle.std.proofs.lemmas.Int.{to_z-of_z, ints, clamps}
use Rattle.lop_model.specs.Fixings.{has_pair, one_pair}
use Rattle.lop_cuts.specs.Lagrangian.{reduced_entry}
use Rattle.lop_leaf.proofs.FallLemmas.{false_from_not, not_both}
use Rattle.lop_leaf.proofs.charges.pair_value_at.Goals as goal

pub returns-in-After-clause-value : goal.returns-in-After-clause-value
returns-in-After-clause-value c =
    let pairs = c.args.fixings.now.pairs in
    let i = c.args.i in
    let j = c.args.j in
    let fixed = c.in-After.ensures.partial_order in
    let turned : has_pair pairs j i ≡ true = (fixed.closed.each j i).1 c.in-After.ensures.decision in
    let other : has_pair pairs i j ≡ false = false_from_not (has_pair pairs i j) (λ t. not_both c.args.fixings.now i j fixed t turned) in
    let fits : FitsSigned w128 c.reduced_at-in-After.result = search rules in
    to_z-of_z w128 c.reduced_at-in-After.result fits ∙ c.reduced_at-in-After.ensures.value ∙ rw (other, turned) refl

pub returns-in-Undecided-clause-value : goal.returns-in-Undecided-clause-value
returns-in-Undecided-clause-value c =
    let r = reduced_entry c.args.weights.now c.args.rec.now.scale c.args.rec.now.terms in
    let pairs = c.args.fixings.now.pairs in
    let i = c.args.i in
    let j = c.args.j in
    let first : has_pair pairs i j ≡ false = false_from_not (has_pair pairs i j) (λ t. c.in-Undecided.ensures.decision.not_before (one_pair t)) in
    let second : has_pair pairs j i ≡ false = false_from_not (has_pair pairs j i) (λ t. c.in-Undecided.ensures.decision.not_after (one_pair t)) in
    let fits_first : FitsSigned w128 c.reduced_at-in-Undecided.result = search rules in
    let fits_second : FitsSigned w128 c.reduced_at-in-Undecided-2.result = search rules in
    let fits : FitsSigned w128 c.max.result = search rules in
    let chosen = simp to_z-of_z at c.max.ensures.value in
    let read : c.max.result ≡ int_max (r i j) (r j i) = cc (chosen, c.reduced_at-in-Undecided.ensures.value, c.reduced_at-in-Undecided-2.ensures.value) in
    to_z-of_z w128 c.max.result fits ∙ read ∙ rw (first, second) refl

pub returns-in-Undecided-clause-high : goal.returns-in-Undecided-clause-high
returns-in-Undecided-clause-high c =
    let fits_first : FitsSigned w128 c.reduced_at-in-Undecided.result = search rules in
    let fits_second : FitsSigned w128 c.reduced_at-in-Undecided-2.result = search rules in
    let fits : FitsSigned w128 c.max.result = search rules in
    let chosen : c.max.result ≡ int_max c.reduced_at-in-Undecided.result c.reduced_at-in-Undecided-2.result = simp to_z-of_z at c.max.ensures.value in
    rw (to_z-of_z w128 c.max.result fits) (omega (arith, ints, clamps, chosen, c.reduced_at-in-Undecided.ensures.high, c.reduced_at-in-Undecided-2.ensures.high))
