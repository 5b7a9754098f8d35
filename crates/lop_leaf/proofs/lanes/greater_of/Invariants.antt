use Rattle.std.proofs.Common.{◌≡◌, ◌*◌, ℕ, ◌<◌, length, pos}
use Rattle.std.specs.Prelude.{slice_index_or}
use Rattle.std.specs.Int.{int_max}
use Rattle.lop_leaf.proofs.lanes.greater_of.Given as goal

abbrev pub invariant-loop-block : goal.invariant-loop-block
invariant-loop-block l = record {
  same_length : length l.out ≡ length l.fn.out;
  chosen : (k : ℕ) → k < l.block * 4 → slice_index_or l.out k (pos 0) ≡ int_max (slice_index_or l.left k (pos 0)) (slice_index_or l.right k (pos 0));
}
