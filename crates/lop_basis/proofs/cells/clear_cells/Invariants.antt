use Rattle.std.proofs.Common.{◌≡◌, ℕ, ◌<◌, pos}
use Rattle.lop_basis.specs.Table.{at}
use Rattle.lop_basis.proofs.cells.clear_cells.Given as goal

abbrev pub invariant-loop-cell : goal.invariant-loop-cell
invariant-loop-cell l = (k : ℕ) → k < l.cell-index → at l.cells k ≡ pos 0
