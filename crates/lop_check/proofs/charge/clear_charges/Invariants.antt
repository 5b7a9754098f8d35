use Rattle.std.proofs.Common.{◌≡◌, ℕ, ◌<◌, get_or}
use Rattle.lop_check.proofs.charge.clear_charges.Given as goal

abbrev pub invariant-loop-charge : goal.invariant-loop-charge
invariant-loop-charge l = (k : ℕ) → k < l.charge-index → get_or l.charges k 0 ≡ 0
