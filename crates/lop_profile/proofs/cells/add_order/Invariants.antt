use Rattle.lop_profile.proofs.PairLemmas.{ArePairsAdded}
use Rattle.lop_profile.proofs.cells.add_order.Given as goal

abbrev pub invariant-loop-place : goal.invariant-loop-place
invariant-loop-place l = ArePairsAdded l.fn.cells l.cells l.n l.count l.ranked l.groups l.place
