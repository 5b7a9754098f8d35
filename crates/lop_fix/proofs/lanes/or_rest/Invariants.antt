use Rattle.std.proofs.Common.{◌≡◌, ℕ, ◌<◌, ◌≤◌, length, slice_index}
use Rattle.std.specs.Prelude.{bit_or}
use Rattle.lop_fix.proofs.lanes.or_rest.Given as goal

abbrev pub invariant-loop-k : goal.invariant-loop-k
invariant-loop-k l = record {
  same_length : length l.row ≡ length l.fn.row;
  joined : (k : ℕ) → l.from ≤ k → k < l.k → slice_index l.row k ≡ bit_or (slice_index l.fn.row k) (slice_index l.with k);
  below : (k : ℕ) → k < l.from → slice_index l.row k ≡ slice_index l.fn.row k;
  above : (k : ℕ) → l.k ≤ k → slice_index l.row k ≡ slice_index l.fn.row k;
}
