use Rattle.std.proofs.Common.{◌≡◌, ◌≤◌, length}
use Rattle.lop_cuts.specs.Separation.{GainsViolated}
use Rattle.lop_fence.proofs.fences.start_across.Given as goal

abbrev pub invariant-loop-u : goal.invariant-loop-u
invariant-loop-u l = record {
  gains : GainsViolated l.point l.fn.list l.list;
  within : length l.list.cuts ≤ l.until;
  room : l.list.room ≡ l.fn.list.room;
}
