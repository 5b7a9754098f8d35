use Rattle.std.proofs.Common.{◌≡◌, ◌∙◌, ◌<◌, ◌≤◌, length, get_or, ℤ, pos, nat_abs, FitsSigned, w64, ap, sym, subst, arith, rules}
use Rattle.std.proofs.lemmas.Int.{to_z-of_z}
use Rattle.lop_lolib.specs.declared.number.TheConstants.{MAX_NUMBER}
use Rattle.lop_lolib.specs.Units.{units_of}
use Rattle.lop_lolib.specs.Numbers.{units_at}
use Rattle.lop_lolib.proofs.UnitsLemmas.{AreUnitsSoFar, units_so_far-more, narrow-fits}
use Rattle.lop_lolib.proofs.lolib.scale.Goals as goal

pub loop-index-preserved : goal.loop-index-preserved
loop-index-preserved c =
    let k = c.args.k in
    let digits = c.args.digits.now in
    let decimals = c.args.decimals.now in
    let place = c.loop-index.index in
    let units = c.in-Some.units in
    let invariant = c.loop-index.invariant in
    let so_far : AreUnitsSoFar k digits decimals c.loop-index.digits place = record { long = invariant.long; before = invariant.done; behind = invariant.left } in
    let inside : place < length digits = omega arith in
    let fits : FitsSigned w64 units = search rules in
    let here = invariant.left place (omega arith) in
    let old : ℤ = get_or c.loop-index.digits place (pos 0) in
    let low : nat_abs old ≤ MAX_NUMBER = subst (λ (z : ℤ). nat_abs z ≤ MAX_NUMBER) (sym here) (c.requires.narrow place (pos 0) inside) in
    let is : units ≡ units_at k digits decimals place = c.in-Some.ensures.0 ∙ ap (λ (z : ℤ). units_of k z (get_or decimals place 0)) (to_z-of_z w64 old (narrow-fits old low) ∙ here) in
    let next = units_so_far-more k digits decimals c.loop-index.digits place units so_far inside is c.in-Some.ensures.1 in
    rw (to_z-of_z w64 units fits) (record { long = next.long; done = next.before; left = next.behind })
