use Rattle.std.proofs.Common.{◌≡◌, ◌≤◌, take, vec_capacity}
use Rattle.lop_leaf.proofs.ticket.write_path.Given as goal

abbrev pub invariant-loop-pair : goal.invariant-loop-pair
invariant-loop-pair l = record {
  so_far : l.room.items ≡ take l.pair-index l.path;
  capacity : vec_capacity l.fn.room ≤ vec_capacity l.room;
}
