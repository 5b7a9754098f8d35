use Rattle.std.proofs.Common.{◌≡◌}
use Rattle.lop_pool.specs.Workers.{quiet}
use Rattle.lop_pool.proofs.round.take_within.Given as goal

abbrev pub invariant-loop-tries : goal.invariant-loop-tries
invariant-loop-tries g l = record {
  turn : l.pass.turn ≡ l.fn.pass.turn;
  quiet : quiet l.pass.view ≡ quiet l.fn.pass.view;
}
