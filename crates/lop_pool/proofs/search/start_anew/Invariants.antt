use Rattle.std.proofs.Common.{◌≡◌, ℕ, length}
use Rattle.std.specs.Prelude.{All}
use Rattle.std.specs.List.{AllWithin}
use Rattle.lop_pool.specs.Workers.{WorkerFits}
use Rattle.lop_pool.proofs.search.start_anew.Given as goal

abbrev pub invariant-loop-k : goal.invariant-loop-k
invariant-loop-k g l = record {
  len : length l.workers ≡ length l.fn.workers;
  fits : (n : ℕ) → All (WorkerFits g.J.Judge.objects n) l.fn.workers → All (WorkerFits g.J.Judge.objects n) l.workers;
  idle : AllWithin (λ w. w.held ≡ 0) l.workers 0 l.k;
}
