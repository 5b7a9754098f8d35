use Rattle.lop_profile.proofs.TableLemmas.{AreCells}
use Rattle.lop_profile.proofs.profile.pair_weights.Given as goal

abbrev pub invariant-loop-index : goal.invariant-loop-index
invariant-loop-index l = AreCells l.n l.fn.profile.orders l.index l.cells.items
