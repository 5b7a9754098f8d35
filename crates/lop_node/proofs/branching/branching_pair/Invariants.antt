use Rattle.lop_model.specs.Fixings.{IsUndecided}
use Rattle.lop_node.proofs.branching.branching_pair.Given as goal

abbrev pub invariant-loop-a : goal.invariant-loop-a
invariant-loop-a l = IsUndecided l.fixings.size l.fixings.pairs l.best.pair.before l.best.pair.after

abbrev pub invariant-loop-b : goal.invariant-loop-b
invariant-loop-b l = IsUndecided l.fixings.size l.fixings.pairs l.best.pair.before l.best.pair.after
