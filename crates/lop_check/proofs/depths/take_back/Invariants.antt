use Rattle.std.proofs.Common.{◌≡◌, length}
use Rattle.lop_check.proofs.DepthLemmas.{AllTakenTo}
use Rattle.lop_check.proofs.depths.take_back.Given as goal

abbrev pub invariant-loop-x : goal.invariant-loop-x
invariant-loop-x l = record {
  same_length : length l.depths ≡ length l.fn.depths;
  each : AllTakenTo l.fn.depths l.depths l.n l.a l.depth l.x;
}
