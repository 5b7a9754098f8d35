use Rattle.lop_basis.specs.Solve.{column_sum, AreWrittenBelow}
use Rattle.lop_basis.proofs.sums.write_column_sums.Given as goal

abbrev pub invariant-loop-i : goal.invariant-loop-i
invariant-loop-i l = AreWrittenBelow (column_sum l.cells l.n l.column) l.i l.fn.out l.out
