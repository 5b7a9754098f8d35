use Rattle.std.proofs.Common.{◌≡◌}
use Rattle.lop_node.proofs.start.sweep.Given as goal

abbrev pub invariant-loop-step : goal.invariant-loop-step
invariant-loop-step l = l.ascent.size ≡ l.fn.ascent.size
