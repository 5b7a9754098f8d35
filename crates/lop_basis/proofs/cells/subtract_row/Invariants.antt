use Rattle.lop_basis.proofs.RowLemmas.{HasChangedBelow}
use Rattle.lop_basis.specs.Cells.{difference}
use Rattle.lop_basis.proofs.cells.subtract_row.Given as goal

abbrev pub invariant-loop-j : goal.invariant-loop-j
invariant-loop-j l = HasChangedBelow l.n l.row l.j (difference l.fn.cells l.n l.pivot_row l.column l.row) l.fn.cells l.cells
