-- The total lies within the sum of the absolute values.
use Rattle.std.proofs.Common.{◌^◌, ◌≤◌, ℤ, pos, ◌≤ℤ◌, neg_ℤ, arith}
use Rattle.std.specs.Prelude.{unsigned_abs}
use Rattle.std.proofs.lemmas.Int.{ints}
use Rattle.lop_model.specs.Matrix.{Matrix, entry, pair_total, pair_absolute, total, absolute_total, IsWeights}
use Rattle.lop_model.proofs.SumLemmas.{pair_sum-le, pair_sum-negate}
use Rattle.lop_model.proofs.MatrixLemmas.{unsigned_abs_bounds}

total-le : (C : Matrix) → total C ≤ℤ absolute_total C
total-le C = pair_sum-le C.size (pair_total C) (pair_absolute C) (λ i j _ _. omega (arith, ints, unsigned_abs_bounds (entry C i j), unsigned_abs_bounds (entry C j i)))

total-ge : (C : Matrix) → neg_ℤ (absolute_total C) ≤ℤ total C
total-ge C =
    rw (← pair_sum-negate C.size (pair_absolute C))
    (pair_sum-le C.size (λ i j. neg_ℤ (pair_absolute C i j)) (pair_total C) (λ i j _ _. omega (arith, ints, unsigned_abs_bounds (entry C i j), unsigned_abs_bounds (entry C j i))))

-- a number within 10^18 may be printed
pub within_limit : (z : ℤ) → z ≤ℤ pos (10 ^ 18) → neg_ℤ (pos (10 ^ 18)) ≤ℤ z → unsigned_abs z ≤ 2 ^ 63
within_limit z high low = omega (arith, ints)

pub total_within : (C : Matrix) → IsWeights C → unsigned_abs (total C) ≤ 2 ^ 63
total_within C w = within_limit (total C) (omega (arith, ints, total-le C, w.bounded_sum)) (omega (arith, ints, total-ge C, w.bounded_sum))

pub below_limit : (z : ℤ) → unsigned_abs z ≤ 2 ^ 63 → z ≤ℤ pos (2 ^ 63)
below_limit z h = omega (arith, ints, unsigned_abs_bounds z)
