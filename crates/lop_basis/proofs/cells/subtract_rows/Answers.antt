use Rattle.lop_basis.proofs.RowLemmas.{pivot_row_passed, row_changed}
use Rattle.lop_basis.proofs.cells.subtract_rows.Goals as goal
use Rattle.lop_basis.proofs.cells.subtract_rows.Goals.{then-row-pivot_row+in_default, else-row-pivot_row}

pub loop-row-preserved : goal.loop-row-preserved
loop-row-preserved c =
    elim c.if-row-pivot_row.branch [
      | then-row-pivot_row+in_default w ↦
          rw w.cells-is (row_changed _ _ _ _ _ _ _ c.requires.pivot_row c.loop-row-test.true w.if-row-pivot_row.true c.loop-row.invariant w.in_default.ensures.changes)
      | else-row-pivot_row w ↦ rw w.cells-is (pivot_row_passed _ _ _ _ _ _ w.if-row-pivot_row.false c.loop-row.invariant)
    ]
