use Rattle.std.proofs.Common.{◌≡◌, ℕ, ◌<◌, length}
use Rattle.lop_leaf.specs.Table.{signed, IsMargin}
use Rattle.lop_leaf.proofs.margins.write_row.Given as goal

abbrev pub invariant-loop-j : goal.invariant-loop-j
invariant-loop-j l = record {
  same_length : length l.table ≡ length l.fn.table;
  here : (j : ℕ) → l.i < j → j < l.j → IsMargin l.weights l.fixings.pairs l.i j (signed l.table l.weights.size l.i j);
  others : (x y : ℕ) → x < l.i → x < y → y < l.weights.size → signed l.table l.weights.size x y ≡ signed l.fn.table l.weights.size x y;
}
