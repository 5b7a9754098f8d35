use Rattle.std.proofs.Common.{◌≡◌, ◌∙◌, ◌*◌, nat_abs, get_or, pos, ℤ, ap, arith, rules, w64, FitsSigned}
use Rattle.std.proofs.lemmas.Int.{to_z-of_z}
use Rattle.lop_check.proofs.Charging.{cut_number}
use Rattle.lop_check.proofs.charge.cut_place.Goals as goal

pub overflow_sub-result : goal.overflow_sub-result
overflow_sub-result c =
    let x : ℤ = get_or c.args.numbers.now (2 * c.args.term) (pos 0) in
    let fits : FitsSigned w64 x = search rules in
    let read : c.unsigned_abs.result ≡ nat_abs x = c.unsigned_abs.ensures.value ∙ ap nat_abs (to_z-of_z w64 x fits) in
    let n = cut_number c.args.numbers.now c.args.count c.args.term c.requires.within c.requires.rising in
    omega (arith, read, n.0)

pub returns-clause-below : goal.returns-clause-below
returns-clause-below c =
    let x : ℤ = get_or c.args.numbers.now (2 * c.args.term) (pos 0) in
    let fits : FitsSigned w64 x = search rules in
    let read : c.unsigned_abs.result ≡ nat_abs x = c.unsigned_abs.ensures.value ∙ ap nat_abs (to_z-of_z w64 x fits) in
    let n = cut_number c.args.numbers.now c.args.count c.args.term c.requires.within c.requires.rising in
    omega (arith, read, n.0, n.1)
