use Rattle.std.proofs.Common.{◌≤◌, ◌^◌, ◌≡◌, ◌*ℤ◌, arith, FitsSigned, pos, to_z, of_z}
use Rattle.std.specs.Int.{w128}
use Rattle.std.specs.Prelude.{unsigned_abs}
use Rattle.std.proofs.lemmas.Int.{ints, to_z-of_z, fits_signed_mul, quot_fits}
use Rattle.lop_basis.specs.Fixed.{product}
use Rattle.lop_basis.proofs.FixedLemmas.{product-within}
use Rattle.lop_basis.proofs.fixed.product_of.Goals as goal

pub returns-clause-high : goal.returns-clause-high
returns-clause-high c =
    let p = c.args.x in
    let q = c.args.y in
    let x : unsigned_abs p ≤ 2 ^ 63 = omega (arith, ints) in
    let y : unsigned_abs q ≤ 2 ^ 63 = omega (arith, ints) in
    let whole : FitsSigned w128 (p *ℤ q) = fits_signed_mul w128 p q (2 ^ 63) (2 ^ 63) x y (omega arith) in
    let cut : FitsSigned w128 (product p q) = quot_fits w128 (p *ℤ q) (pos (2 ^ 32)) whole (omega (arith, ints)) in
    let first : to_z w128 (of_z w128 c.from.result) ≡ p = omega (arith, ints) in
    let second : to_z w128 (of_z w128 c.from-2.result) ≡ q = omega (arith, ints) in
    rw (first, second, to_z-of_z w128 (p *ℤ q) whole, to_z-of_z w128 (product p q) cut) (product-within p q x y).high
