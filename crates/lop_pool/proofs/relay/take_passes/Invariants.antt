use Rattle.std.proofs.Common.{◌≡◌, ◌+◌, length}
use Rattle.lop_pool.specs.Workers.{IsAtWork, IsFirst, IsBack, BelowAt, FromAt}
use Rattle.lop_pool.proofs.relay.take_passes.Given as goal

abbrev pub invariant-loop-k : goal.invariant-loop-k
invariant-loop-k g l = record {
  len : length l.workers ≡ length l.fn.workers;
  turn : l.first.turn ≡ l.fn.first.turn;
  first : IsFirst l.fn.about.value l.first.view;
  split : l.first.view.split_off ≡ l.fn.first.view.split_off;
  rest : FromAt (λ k w. IsAtWork g.J.Judge.objects g.J.Judge.judged l.fn.about.value.problem l.fn.weights l.fn.turn (k + 1) w) l.k l.workers;
  done : BelowAt (λ k w. IsBack g.J.Judge.objects g.J.Judge.judged l.fn.about.value.problem l.fn.weights l.first.view (k + 1) w) l.k l.workers;
}
