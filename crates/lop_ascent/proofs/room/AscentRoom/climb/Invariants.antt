use Rattle.std.proofs.Common.{◌≡◌}
use Rattle.lop_ascent.proofs.room.AscentRoom.climb.Given as goal

abbrev pub invariant-loop-index : goal.invariant-loop-index
invariant-loop-index l = record {
  size : l.self.size ≡ l.initial.self.size;
  same_cuts : l.self.cuts ≡ l.initial.self.cuts;
}
