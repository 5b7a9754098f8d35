use Rattle.std.proofs.Common.{◌≡◌, ◌∙◌, ap, pos, ◌+ℤ◌, rules, arith, to_z, of_z, FitsSigned}
use Rattle.std.specs.Int.{w128}
use Rattle.std.proofs.lemmas.Int.{to_z-of_z, to_z_pos}
use Rattle.lop_cuts.specs.Lagrangian.{right_sides}
use Rattle.lop_leaf.proofs.charges.charged_value.Goals as goal

pub returns-clause-value : goal.returns-clause-value
returns-clause-value c =
    let w = c.args.weights.now in
    let fixed = c.args.fixings.now in
    let rec = c.args.rec.now in
    let sides : to_z w128 c.charge_terms-sides.result ≡ pos c.charge_terms-sides.result = to_z_pos w128 c.charge_terms-sides.result (let few = c.charge_terms-sides.ensures.few in omega (arith, few)) in
    let fits_values : FitsSigned w128 c.pair_values-values.result = search rules in
    let values : to_z w128 (of_z w128 c.pair_values-values.result) ≡ c.pair_values-values.result = to_z-of_z w128 c.pair_values-values.result fits_values in
    let fits : FitsSigned w128 (to_z w128 c.charge_terms-sides.result +ℤ to_z w128 (of_z w128 c.pair_values-values.result)) = search rules in
    to_z-of_z w128 _ fits
    ∙ ap (λ x. x +ℤ to_z w128 (of_z w128 c.pair_values-values.result)) (sides ∙ ap pos c.charge_terms-sides.ensures.sides)
    ∙ ap (λ x. pos (right_sides rec.terms) +ℤ x) (values ∙ c.pair_values-values.ensures.sum)
