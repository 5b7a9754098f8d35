use Rattle.std.proofs.Common.{◌≡◌, ◌∙◌, rules, to_z, of_z, FitsSigned}
use Rattle.std.specs.Int.{w128}
use Rattle.std.proofs.lemmas.Int.{to_z-of_z}
use Rattle.lop_leaf.specs.Bound.{record_value}
use Rattle.lop_node.proofs.BetterLemmas.{quotient_alone}
use Rattle.lop_node.proofs.cut_judge.record_bound.Goals as goal

pub returns-clause-quotient : goal.returns-clause-quotient
returns-clause-quotient c =
    let C = c.args.weights.now in
    let G = c.args.fixings.now.pairs in
    let r = c.args.shown.now in
    let fits_upper : FitsSigned w128 c.upper-upper.result = search rules in
    let fits_bound : FitsSigned w128 c.bound_of.result = search rules in
    let value : to_z w128 (of_z w128 c.upper-upper.result) ≡ record_value C G r = to_z-of_z w128 c.upper-upper.result fits_upper ∙ c.upper-upper.ensures.value in
    quotient_alone (to_z w128 (of_z w128 c.upper-upper.result)) (record_value C G r) c.scale.result r.scale c.bound_of.result (to_z w128 (of_z w128 c.bound_of.result))
    value c.scale.ensures.value (to_z-of_z w128 c.bound_of.result fits_bound) c.bound_of.ensures.greatest c.bound_of.ensures.certified
