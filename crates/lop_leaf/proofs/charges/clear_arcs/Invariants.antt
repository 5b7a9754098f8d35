use Rattle.std.proofs.Common.{◌≡◌, ℕ, ◌<◌, length, take, cond}
use Rattle.lop_model.specs.Fixings.{has_pair}
use Rattle.lop_model.specs.Cells.{cell}
use Rattle.lop_leaf.proofs.charges.clear_arcs.Given as goal

abbrev pub invariant-loop-arc : goal.invariant-loop-arc
invariant-loop-arc l = record {
  same_length : length l.table ≡ length l.fn.table;
  each : (a b : ℕ) → a < l.n → b < l.n → cell l.table l.n a b ≡ cond (has_pair (take l.arc-index l.arcs) a b) 0 (cell l.fn.table l.n a b);
}
