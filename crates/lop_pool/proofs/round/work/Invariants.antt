use Rattle.lop_pool.specs.Holding.{Holds, WhateverElse}
use Rattle.lop_pool.specs.Workers.{WorkerFits, IsPassFor}
use Rattle.lop_pool.proofs.round.work.Given as goal

abbrev pub invariant-loop-left : goal.invariant-loop-left
invariant-loop-left g l = record {
  fits : WorkerFits g.J.Judge.objects l.fn.weights.size l.worker;
  pass : IsPassFor l.fn.turn l.fn.about.value.problem l.fn.number l.pass;
  holds : WhateverElse l.fn.about.value.problem l.fn.number l.pass.view.mine (Holds g.J.Judge.judged l.fn.weights l.fn.number l.worker.parcels.items l.worker.held);
}

abbrev pub decreases-loop-left : goal.decreases-loop-left
decreases-loop-left g l = l.left
