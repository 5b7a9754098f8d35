-- The greater of two signed lanes.
use Rattle.std.proofs.Common.{◌≡◌, ◌^◌, ◌-◌, ℕ, zero, suc, Bool, true, false, cond, ◌<◌, refl, ◌∙◌, arith, ℤ, to_z, of_z, FitsSigned}
use Rattle.std.specs.Int.{w64, int_max}
use Rattle.std.specs.Int.Signed.{lt_z}
use Rattle.std.proofs.lemmas.Int.{to_z-of_z}
use lib.Lanes.{top}

-- what holds of each of four lanes
pub below_four : (P : ℕ → Type 0) → P 0 → P 1 → P 2 → P 3 → (k : ℕ) → k < 4 → P k
below_four P p q r s zero l = p
below_four P p q r s (suc zero) l = q
below_four P p q r s (suc (suc zero)) l = r
below_four P p q r s (suc (suc (suc zero))) l = s
below_four P p q r s (suc (suc (suc (suc k)))) l = absurd (omega arith)

chosen : (t : Bool) (a b : ℕ) → to_z w64 (cond (top 63 (cond t (2 ^ 64 - 1) 0)) a b) ≡ cond t (to_z w64 a) (to_z w64 b)
chosen true a b = refl
chosen false a b = refl

abbrev read : ℤ → ℤ
read x = to_z w64 (of_z w64 x)

abbrev lane : ℤ → ℤ → ℤ
lane x y = to_z w64 (cond (top 63 (cond (lt_z (read (read y)) (read (read x))) (2 ^ 64 - 1) 0)) (of_z w64 (read x)) (of_z w64 (read y)))

-- the first where the second is less, and else the second
pub lane_value : (x y : ℤ) → FitsSigned w64 x → FitsSigned w64 y → lane x y ≡ int_max x y
lane_value x y f g =
    chosen (lt_z (read (read y)) (read (read x))) (of_z w64 (read x)) (of_z w64 (read y))
    ∙ rw (to_z-of_z w64 x f, to_z-of_z w64 y g) (rw (to_z-of_z w64 x f, to_z-of_z w64 y g) refl)
