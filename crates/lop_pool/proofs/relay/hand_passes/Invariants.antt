use Rattle.std.proofs.Common.{◌≡◌, ◌+◌, length}
use Rattle.std.specs.Prelude.{All}
use Rattle.lop_pool.specs.Events.{events_of}
use Rattle.lop_pool.specs.Workers.{WorkerFits, IsAtWork, IsFirst, IsNumber, BelowAt}
use Rattle.lop_pool.proofs.relay.hand_passes.Given as goal

abbrev pub invariant-loop-k : goal.invariant-loop-k
invariant-loop-k g l = record {
  len : length l.workers ≡ length l.fn.workers;
  turn : l.first.turn ≡ l.fn.first.turn;
  first : IsFirst l.fn.about.value l.first.view;
  seen : l.first.view.seen ≡ events_of l.fn.about.value.journal;
  split : All (IsNumber l.k) l.first.view.split_off;
  fits : All (WorkerFits g.J.Judge.objects l.fn.weights.size) l.workers;
  idle : All (λ w. w.held ≡ 0) l.workers;
  done : BelowAt (λ k w. IsAtWork g.J.Judge.objects g.J.Judge.judged l.fn.about.value.problem l.fn.weights l.fn.turn (k + 1) w) l.k l.workers;
}
