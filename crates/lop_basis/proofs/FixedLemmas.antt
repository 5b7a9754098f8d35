-- Bounds of products in units of 2^-32.
use Rattle.std.proofs.Common.{ℕ, suc, ◌*◌, ◌/◌, ◌≤◌, ◌^◌, ℤ, pos, negsuc, neg_ℤ, ◌*ℤ◌, ◌≤ℤ◌, arith}
use Rattle.std.specs.Prelude.{int_div, unsigned_abs}
use Rattle.std.proofs.Math.Nat.{mul-le-mul, div-le_of_le-mul}
use Rattle.std.proofs.lemmas.Int.{ints, unsigned_abs-mul}
use Rattle.lop_basis.specs.Fixed.{product}

-- a number is from -m to m
pub record IsWithin (m : ℕ) (z : ℤ) : Type 0 where
  pub low : neg_ℤ (pos m) ≤ℤ z
  pub high : z ≤ℤ pos m

cut-within : (d m : ℕ) (z : ℤ) → unsigned_abs z ≤ d * m → IsWithin m (int_div z (pos d))
cut-within d m (pos a) h = let q : a / d ≤ m = div-le_of_le-mul d h in record { low = omega (arith, ints); high = omega (arith, ints) }
cut-within d m (negsuc a) h = let q : suc a / d ≤ m = div-le_of_le-mul d h in record { low = omega (arith, ints); high = omega (arith, ints) }

pub product-within : (x y : ℤ) → unsigned_abs x ≤ 2 ^ 63 → unsigned_abs y ≤ 2 ^ 63 → IsWithin (2 ^ 94) (product x y)
product-within x y p q =
    let both : unsigned_abs x * unsigned_abs y ≤ 2 ^ 63 * 2 ^ 63 = mul-le-mul p q in
    let whole : unsigned_abs (x *ℤ y) ≤ 2 ^ 32 * 2 ^ 94 = omega (arith, both, unsigned_abs-mul x y) in
    cut-within (2 ^ 32) (2 ^ 94) (x *ℤ y) whole
