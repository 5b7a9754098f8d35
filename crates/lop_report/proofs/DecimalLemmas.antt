-- Powers of ten.
use Rattle.std.proofs.Common.{ℕ, zero, suc, ◌<◌, ◌^◌, arith}

pub unit_positive : (k : ℕ) → 0 < 10 ^ k
unit_positive zero = omega arith
unit_positive (suc k) = let h = unit_positive k in omega (arith, h)
