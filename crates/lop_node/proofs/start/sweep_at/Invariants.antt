use Rattle.std.proofs.Common.{◌≡◌}
use Rattle.lop_node.proofs.start.sweep_at.Given as goal

abbrev pub invariant-loop-from : goal.invariant-loop-from
invariant-loop-from l = l.ascent.size ≡ l.fn.ascent.size

abbrev pub invariant-loop-to : goal.invariant-loop-to
invariant-loop-to l = l.ascent.size ≡ l.fn.ascent.size
