use Rattle.std.proofs.Common.{◌≡◌}
use Rattle.lop_simplex.proofs.write.write_point.Given as goal

abbrev pub invariant-loop-b : goal.invariant-loop-b
invariant-loop-b l = l.point.size ≡ l.fn.point.size

abbrev pub invariant-loop-a : goal.invariant-loop-a
invariant-loop-a l = l.point.size ≡ l.fn.point.size
