use Rattle.lop_ascent.proofs.PlaceLemmas.{enough_cells}
use Rattle.lop_ascent.proofs.place.cells_for.Goals as goal

pub returns : goal.returns
returns c = rw c.saturating_sub.ensures (rw c.from-n.ensures (enough_cells c.args.n))
