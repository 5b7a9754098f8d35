use Rattle.lop_basis.proofs.RowLemmas.{HasChangedBelow}
use Rattle.lop_basis.specs.Pivot.{new_of_pivot_row}
use Rattle.lop_basis.proofs.cells.divide_row.Given as goal

abbrev pub invariant-loop-j : goal.invariant-loop-j
invariant-loop-j l = HasChangedBelow l.n l.row l.j (new_of_pivot_row l.fn.cells l.n l.row l.column) l.fn.cells l.cells
