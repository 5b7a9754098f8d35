use Rattle.std.specs.Prelude.{IfSome}
use Rattle.lop_model.specs.Fixings.{IsUndecided}
use Rattle.lop_trial_search.proofs.worst.last_undecided.Given as goal

abbrev pub invariant-loop-a : goal.invariant-loop-a
invariant-loop-a l = IfSome l.last (λ p. IsUndecided l.fixings.size l.fixings.pairs p.before p.after)

abbrev pub invariant-loop-b : goal.invariant-loop-b
invariant-loop-b l = IfSome l.last (λ p. IsUndecided l.fixings.size l.fixings.pairs p.before p.after)
