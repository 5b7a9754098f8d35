use Rattle.std.proofs.Common.{◌≡◌, ◌<◌, pos, ◌∙◌, rules, arith, to_z, of_z, FitsSigned}
use Rattle.std.specs.Int.{w128, int_div_euclid}
use Rattle.std.proofs.lemmas.Int.{to_z-of_z}
use Rattle.lop_leaf.proofs.QuotientLemmas.{quotient-greatest, quotient-certified}
use Rattle.lop_leaf.proofs.bound.bound_of.Goals as goal

pub returns : goal.returns
returns c =
    let u = c.args.upper in
    let S = c.args.scale in
    let fits : FitsSigned w128 c.div_euclid.result = search rules in
    let fits_scale : FitsSigned w128 c.from.result = search rules in
    let fits_upper : FitsSigned w128 u = search rules in
    let divided = simp to_z-of_z at c.div_euclid.ensures in
    let quotient : c.div_euclid.result ≡ int_div_euclid u (pos S) = cc (divided, c.from.ensures) in
    let is : to_z w128 (of_z w128 c.div_euclid.result) ≡ int_div_euclid u (pos S) = to_z-of_z w128 c.div_euclid.result fits ∙ quotient in
    let positive : 0 < S = omega arith in
    record {
      greatest = λ x. quotient-greatest S u _ x positive is;
      certified = quotient-certified S u _ positive is;
    }
