use Rattle.std.proofs.Common.{◌≡◌, ◌+◌}
use Rattle.std.specs.Prelude.{All, vec_len}
use Rattle.lop_pool.specs.Workers.{WorkerFits}
use Rattle.lop_pool.proofs.worker.Worker.each.Given as goal

abbrev pub invariant-loop-judge : goal.invariant-loop-judge
invariant-loop-judge g l = record {
  len : vec_len l.workers + vec_len l.judges ≡ vec_len l.fn.judges;
  judges : All (λ j. g.J.Judge.objects j ≡ l.n) l.judges.items;
  fits : All (WorkerFits g.J.Judge.objects l.n) l.workers.items;
}

abbrev pub decreases-loop-judge : goal.decreases-loop-judge
decreases-loop-judge g l = vec_len l.judges
