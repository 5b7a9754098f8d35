use Rattle.std.proofs.Common.{◌≡◌, ℕ, ◌+◌, ◌*◌, ◌<◌, length, take}
use Rattle.lop_cuts.specs.Charges.{arc_count}
use Rattle.lop_model.specs.Cells.{cell}
use Rattle.lop_leaf.proofs.charges.charge_arcs.Given as goal

abbrev pub invariant-loop-arc : goal.invariant-loop-arc
invariant-loop-arc l = record {
  same_length : length l.table ≡ length l.fn.table;
  each : (a b : ℕ) → a < l.n → b < l.n → cell l.table l.n a b ≡ cell l.fn.table l.n a b + l.multiplier * arc_count a b (take l.arc-index l.arcs);
}
