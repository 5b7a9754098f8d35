use Rattle.std.proofs.Common.{◌≡◌, ℕ, ◌*◌, ◌^◌, ◌<◌, length, pos, ◌≤ℤ◌, neg_ℤ}
use Rattle.lop_model.specs.Sums.{sum_below, above}
use Rattle.lop_model.specs.Matrix.{entry}
use Rattle.lop_model.specs.Bound.{pair_value}
use Rattle.lop_leaf.specs.Table.{signed, IsMargin}
use Rattle.lop_leaf.proofs.margins.load_margins.Given as goal

abbrev pub invariant-loop-i : goal.invariant-loop-i
invariant-loop-i l = record {
  square : length l.table ≡ length l.fn.table;
  same_length : length l.forth ≡ length l.fn.forth;
  same_length_back : length l.back ≡ length l.fn.back;
  same_length_greater : length l.greater ≡ length l.fn.greater;
  sum_so_far : l.sum ≡ sum_below l.i (λ i. sum_below l.weights.size (above (pair_value l.fixings.pairs (entry l.weights)) i));
  low : neg_ℤ (pos (l.i * 2 ^ 63)) ≤ℤ l.sum;
  high : l.sum ≤ℤ pos (l.i * 2 ^ 63);
  rows : (i j : ℕ) → i < l.i → i < j → j < l.weights.size → IsMargin l.weights l.fixings.pairs i j (signed l.table l.weights.size i j);
}
