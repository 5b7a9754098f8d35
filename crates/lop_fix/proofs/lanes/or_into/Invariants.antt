use Rattle.std.proofs.Common.{◌≡◌, ◌*◌, ℕ, ◌<◌, ◌≤◌, length, slice_index}
use Rattle.std.specs.Prelude.{bit_or}
use Rattle.lop_fix.proofs.lanes.or_into.Given as goal

abbrev pub invariant-loop-block : goal.invariant-loop-block
invariant-loop-block l = record {
  same_length : length l.row ≡ length l.fn.row;
  joined : (k : ℕ) → k < l.block * 4 → slice_index l.row k ≡ bit_or (slice_index l.fn.row k) (slice_index l.with k);
  above : (k : ℕ) → l.block * 4 ≤ k → slice_index l.row k ≡ slice_index l.fn.row k;
}
