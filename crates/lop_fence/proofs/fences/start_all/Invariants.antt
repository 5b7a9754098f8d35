use Rattle.std.proofs.Common.{◌≡◌, ◌≤◌, length}
use Rattle.lop_cuts.specs.Separation.{GainsViolated}
use Rattle.lop_fence.proofs.fences.start_all.Given as goal

abbrev pub invariant-loop-by : goal.invariant-loop-by
invariant-loop-by l = record {
  gains : GainsViolated l.point l.fn.list l.list;
  within : length l.list.cuts ≤ l.until;
  room : l.list.room ≡ l.fn.list.room;
}
