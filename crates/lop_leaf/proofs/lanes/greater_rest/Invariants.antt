use Rattle.std.proofs.Common.{◌≡◌, ℕ, ◌<◌, ◌≤◌, length, pos}
use Rattle.std.specs.Prelude.{slice_index_or}
use Rattle.std.specs.Int.{int_max}
use Rattle.lop_leaf.proofs.lanes.greater_rest.Given as goal

abbrev pub invariant-loop-k : goal.invariant-loop-k
invariant-loop-k l = record {
  same_length : length l.out ≡ length l.fn.out;
  chosen : (k : ℕ) → l.from ≤ k → k < l.k → slice_index_or l.out k (pos 0) ≡ int_max (slice_index_or l.left k (pos 0)) (slice_index_or l.right k (pos 0));
  below : (k : ℕ) → k < l.from → slice_index_or l.out k (pos 0) ≡ slice_index_or l.fn.out k (pos 0);
}
