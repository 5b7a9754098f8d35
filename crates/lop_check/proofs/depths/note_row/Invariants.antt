use Rattle.std.proofs.Common.{◌≡◌, length}
use Rattle.lop_check.proofs.DepthLemmas.{NotedTo}
use Rattle.lop_check.proofs.depths.note_row.Given as goal

abbrev pub invariant-loop-y : goal.invariant-loop-y
invariant-loop-y l = record {
  same_length : length l.depths ≡ length l.fn.depths;
  each : NotedTo l.fn.depths l.depths l.n l.x l.b l.depth l.y;
}
