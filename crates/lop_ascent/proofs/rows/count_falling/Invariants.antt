use Rattle.std.proofs.Common.{◌≤◌}
use Rattle.lop_ascent.proofs.rows.count_falling.Given as goal

abbrev pub invariant-loop-arc : goal.invariant-loop-arc
invariant-loop-arc l = l.count ≤ l.arc-index
