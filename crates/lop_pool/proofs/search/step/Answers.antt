use Rattle.std.proofs.Common.{◌≡◌, arith, ◌∙◌}
use Rattle.std.proofs.lemmas.List.Elements.{All-set}
use Rattle.lop_pool.specs.Workers.{WorkerFits}
use Rattle.lop_pool.proofs.search.step.Goals as goal

pub returns-clause-fits : goal.returns-clause-fits
returns-clause-fits g c = All-set (WorkerFits g.J.Judge.objects c.args.weights.now.size) c.try_round-core.new.workers 0 c.evaluate-end.new.worker c.evaluate-end.ensures.fits c.try_round-core.ensures.fits

pub returns-clause-idle : goal.returns-clause-idle
returns-clause-idle g c = All-set (λ w. w.held ≡ 0) c.try_round-core.new.workers 0 c.evaluate-end.new.worker
    (c.evaluate-end.ensures.held ∙ c.try_round-core.ensures.idle 0 c.index-workers-0.result (omega (arith, c.try_round-core.ensures.len, c.requires.some))) c.try_round-core.ensures.idle
