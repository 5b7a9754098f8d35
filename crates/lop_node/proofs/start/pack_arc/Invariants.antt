use Rattle.std.proofs.Common.{◌≡◌}
use Rattle.lop_node.proofs.start.pack_arc.Given as goal

abbrev pub invariant-loop-again : goal.invariant-loop-again
invariant-loop-again l = l.ascent.size ≡ l.fn.ascent.size
