use Rattle.std.proofs.Common.{◌+◌, arith, subst}
use Rattle.lop_pool.specs.Workers.{IsAtWork}
use Rattle.lop_pool.proofs.round.run_beside.Goals as goal

pub returns-clause-each : goal.returns-clause-each
returns-clause-each g c = λ k d lt.
    let left = (c.for_each_mut.ensures k d (omega (arith, lt, c.for_each_mut.auto.s))).1 in
    subst (λ w. IsAtWork g.J.Judge.objects g.J.Judge.judged c.args.about.now.value.problem c.args.weights.now c.args.turn.now (k + 1) w) left.left left.call
