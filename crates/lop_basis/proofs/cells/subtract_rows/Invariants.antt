use Rattle.lop_basis.proofs.RowLemmas.{HaveChangedBelow}
use Rattle.lop_basis.proofs.cells.subtract_rows.Given as goal

abbrev pub invariant-loop-row : goal.invariant-loop-row
invariant-loop-row l = HaveChangedBelow l.n l.pivot_row l.row l.column l.fn.cells l.cells
