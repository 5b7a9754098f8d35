use Rattle.lop_profile.proofs.CellLemmas.{IsAdded}
use Rattle.lop_profile.proofs.cells.add_row.Given as goal

abbrev pub invariant-loop-place : goal.invariant-loop-place
invariant-loop-place l = IsAdded l.fn.row l.row l.count l.places l.place-index
