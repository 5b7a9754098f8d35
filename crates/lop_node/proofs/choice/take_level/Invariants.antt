use Rattle.std.proofs.Common.{◌≡◌}
use Rattle.lop_node.proofs.choice.take_level.Given as goal

abbrev pub invariant-loop-k : goal.invariant-loop-k
invariant-loop-k l = record {
  same_size : l.ascent.size ≡ l.fn.ascent.size;
}
