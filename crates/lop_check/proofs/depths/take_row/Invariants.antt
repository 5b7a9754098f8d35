use Rattle.std.proofs.Common.{◌≡◌, length}
use Rattle.lop_check.proofs.DepthLemmas.{TakenTo}
use Rattle.lop_check.proofs.depths.take_row.Given as goal

abbrev pub invariant-loop-y : goal.invariant-loop-y
invariant-loop-y l = record {
  same_length : length l.depths ≡ length l.fn.depths;
  each : TakenTo l.fn.depths l.depths l.n l.x l.depth l.y;
}
