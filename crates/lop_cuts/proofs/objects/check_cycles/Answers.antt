use Rattle.std.proofs.Common.{below_more, arith}
use Rattle.std.proofs.lemmas.Result.{err_from_is_err_and}
use Rattle.lop_cuts.proofs.FaultLemmas.{IsNextCycle-at, IsFirstCycleFault-at}
use Rattle.lop_cuts.proofs.objects.check_cycles.Goals as goal

pub returns-in_err-check_cycle-clause-err : goal.returns-in_err-check_cycle-clause-err
returns-in_err-check_cycle-clause-err c =
    let p = err_from_is_err_and c.from_residual.result c.from_residual.ensures.1 in
    rw (p.1, p.2) (IsFirstCycleFault-at _ _ _ _ _ (omega arith) c.loop-index.invariant c.in_err-check_cycle.ensures.err)

pub loop-index-preserved : goal.loop-index-preserved
loop-index-preserved c =
    below_more _ _ c.loop-index.invariant (IsNextCycle-at _ _ _ _ (omega arith) c.in_ok-check_cycle.ensures.ok)
