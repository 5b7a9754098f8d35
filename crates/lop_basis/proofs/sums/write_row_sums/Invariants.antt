use Rattle.lop_basis.specs.Solve.{row_sum, AreWrittenBelow}
use Rattle.lop_basis.proofs.sums.write_row_sums.Given as goal

abbrev pub invariant-loop-j : goal.invariant-loop-j
invariant-loop-j l = AreWrittenBelow (row_sum l.cells l.n l.costs) l.j l.fn.out l.out
