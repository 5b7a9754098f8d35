-- Sums of numbers below a number.
use Rattle.std.proofs.Common.{◌≡◌, ℕ, ◌+◌, ◌∙◌, ap, add-one, w64, ℤ, ◌+ℤ◌, FitsSigned, to_z, of_z}
use Rattle.std.proofs.lemmas.Int.{to_z-of_z}
use Rattle.lop_basis.specs.Fixed.{product}
use Rattle.lop_basis.specs.Solve.{sum_below}

pub sum_below_more : (n : ℕ) (f : ℕ → ℤ) → sum_below (n + 1) f ≡ sum_below n f +ℤ f n
sum_below_more n f = ap (λ k. sum_below k f) (add-one n)

-- a product of numbers that were read
pub product_read : (x y : ℤ) → FitsSigned w64 x → FitsSigned w64 y → product (to_z w64 (of_z w64 x)) (to_z w64 (of_z w64 y)) ≡ product x y
product_read x y f g = ap (λ (z : ℤ). product z (to_z w64 (of_z w64 y))) (to_z-of_z w64 x f) ∙ ap (λ (z : ℤ). product x z) (to_z-of_z w64 y g)
