use Rattle.std.proofs.Common.{◌≡◌, ℕ, ◌+◌, ◌<◌, ◌≤◌, ◌⊎◌, length}
use Rattle.std.specs.List.{AllWithin}
use Rattle.lop_core.specs.Core.{HasHistory}
use Rattle.lop_pool.specs.Events.{events_by}
use Rattle.lop_pool.specs.Holding.{HasNone}
use Rattle.lop_pool.specs.Workers.{WorkerFits, HasLeft, FromAt}
use Rattle.lop_pool.proofs.closing.settle_all.Given as goal

abbrev pub invariant-loop-k : goal.invariant-loop-k
invariant-loop-k g l = record {
  len : length l.workers ≡ length l.fn.workers;
  same_problem : l.core.problem ≡ l.fn.core.problem;
  history : HasHistory l.core;
  rises : l.fn.core.state.evaluated ≤ l.core.state.evaluated;
  fits : AllWithin (WorkerFits g.J.Judge.objects l.fn.weights.size) l.workers 0 l.k;
  idle : AllWithin (λ w. w.held ≡ 0) l.workers 0 l.k;
  rest : FromAt (λ k w. HasLeft g.J.Judge.objects g.J.Judge.judged l.core.problem l.fn.weights (k + 1) (events_by (k + 1) l.core.journal) w) l.k l.workers;
  none : (worker : ℕ) → (worker ≤ l.k) ⊎ (length l.fn.workers < worker) → HasNone worker l.core.state;
}
