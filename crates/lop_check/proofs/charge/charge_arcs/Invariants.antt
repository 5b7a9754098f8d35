use Rattle.std.proofs.Common.{◌≡◌, ℕ, ◌+◌, ◌*◌, ◌<◌, length, take}
use Rattle.lop_model.specs.Cells.{cell}
use Rattle.lop_cuts.specs.Charges.{arc_count}
use Rattle.lop_check.proofs.charge.charge_arcs.Given as goal

abbrev pub invariant-loop-arc : goal.invariant-loop-arc
invariant-loop-arc l = record {
  same_length : length l.charges ≡ length l.fn.charges;
  each : (a b : ℕ) → a < l.n → b < l.n → cell l.charges l.n a b ≡ cell l.fn.charges l.n a b + l.multiplier * arc_count a b (take l.arc-index l.arcs);
}
