use Rattle.std.proofs.Common.{◌+◌, ◌≤◌}
use Rattle.lop_node.proofs.seen.Seen.note_all.Given as goal

abbrev pub invariant-loop-index : goal.invariant-loop-index
invariant-loop-index l = record {
  no_fewer : l.fn.self ≤ l.self;
  at_most : l.self ≤ l.fn.self + l.index;
}
