use Rattle.std.proofs.Common.{◌≡◌, ◌∙◌, ap, pos, ◌+ℤ◌, rules, arith, to_z, of_z, FitsSigned}
use Rattle.std.specs.Int.{w128}
use Rattle.std.proofs.lemmas.Int.{to_z-of_z, to_z_pos}
use Rattle.lop_cuts.specs.Lagrangian.{right_sides}
use Rattle.lop_certtext.specs.RecordLine.{terms_of, terms_in}
use Rattle.lop_cuts.specs.Charges.{HasCharges}
use Rattle.lop_check.proofs.Reduced.{whole_value, fits_wide}
use Rattle.lop_check.proofs.upper.upper.Goals as goal

pub pair_values-requires-clause-small : goal.pair_values-requires-clause-small
pair_values-requires-clause-small c = search rules

pub returns-clause-value : goal.returns-clause-value
returns-clause-value c =
    let C = c.args.weights.now in
    let terms = terms_in c.args.cuts.now (terms_of c.args.numbers.now) in
    let sides = c.charge_terms-sides.result in
    let pairs = c.pair_values.result in
    let fit : FitsSigned w128 pairs = search rules in
    let charges = c.charge_terms-sides.new.charges in
    let has : HasCharges C.size terms charges = search rules in
    let side_z : to_z w128 sides ≡ pos sides = to_z_pos w128 sides (let h = c.charge_terms-sides.ensures.few in omega (arith, h)) in
    let inner : to_z w128 sides +ℤ to_z w128 (of_z w128 pairs) ≡ pos sides +ℤ pairs = ap (λ x. x +ℤ to_z w128 (of_z w128 pairs)) side_z ∙ ap (λ x. pos sides +ℤ x) (to_z-of_z w128 pairs fit) in
    ap (λ x. to_z w128 (of_z w128 x)) inner
    ∙ to_z-of_z w128 (pos sides +ℤ pairs) (fits_wide sides pairs c.charge_terms-sides.ensures.few c.pair_values.ensures.low c.pair_values.ensures.high)
    ∙ ap (λ k. pos k +ℤ pairs) c.charge_terms-sides.ensures.sides
    ∙ ap (λ x. pos (right_sides terms) +ℤ x) c.pair_values.ensures.sum
    ∙ whole_value C c.args.trail.now.fixed c.args.scale terms charges has
