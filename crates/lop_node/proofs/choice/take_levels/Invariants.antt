use Rattle.std.proofs.Common.{◌≡◌}
use Rattle.lop_node.proofs.choice.take_levels.Given as goal

abbrev pub invariant-loop-down : goal.invariant-loop-down
invariant-loop-down l = l.ascent.size ≡ l.fn.ascent.size
