use Rattle.std.proofs.Common.{◌≡◌, ◌≤◌, length}
use Rattle.lop_cuts.specs.Separation.{GainsViolated}
use Rattle.lop_mobius.proofs.room.RingRoom.try_all.Given as goal

abbrev pub invariant-loop-i : goal.invariant-loop-i
invariant-loop-i l = record {
  gains : GainsViolated l.point l.fn.list l.list;
  within : length l.list.cuts ≤ l.until;
  room : l.list.room ≡ l.fn.list.room;
  same : l.self ≡ l.fn.self;
}
