use Rattle.std.proofs.Common.{◌≡◌, ◌-◌, length}
use Rattle.std.specs.Prelude.{All}
use Rattle.lop_core.specs.Tree.{out_count}
use Rattle.lop_pool.specs.Workers.{WorkerFits}
use Rattle.lop_pool.proofs.search.run.Given as goal

abbrev pub invariant-loop-end : goal.invariant-loop-end
invariant-loop-end g l = record {
  len : length l.workers ≡ length l.fn.workers;
  fits : All (WorkerFits g.J.Judge.objects l.fn.weights.size) l.workers;
  idle : All (λ w. w.held ≡ 0) l.workers;
  same_problem : l.core.problem ≡ l.fn.core.problem;
  none_out : out_count l.core.state.nodes ≡ 0;
}

abbrev pub decreases-loop-end : goal.decreases-loop-end
decreases-loop-end g l = l.core.problem.budget - l.core.state.evaluated
