use Rattle.std.proofs.Common.{◌≡◌, length}
use Rattle.lop_check.proofs.DepthLemmas.{AllNotedTo}
use Rattle.lop_check.proofs.depths.note.Given as goal

abbrev pub invariant-loop-x : goal.invariant-loop-x
invariant-loop-x l = record {
  same_length : length l.depths ≡ length l.fn.depths;
  each : AllNotedTo l.fn.depths l.depths l.n l.a l.b l.depth l.x;
}
