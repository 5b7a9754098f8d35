use Rattle.std.proofs.Common.{◌≡◌}
use Rattle.std.specs.Prelude.{◌≤ℤ◌}
use Rattle.lop_pool.specs.Events.{IsGrown}
use Rattle.lop_pool.specs.Holding.{HasTickets}
use Rattle.lop_pool.specs.Marks.{GrowsWhole}
use Rattle.lop_pool.proofs.steps.report_held.Given as goal

abbrev pub invariant-loop-k : goal.invariant-loop-k
invariant-loop-k g l = record {
  same_problem : l.core.problem ≡ l.fn.core.problem;
  grown : IsGrown l.number l.fn.core.journal l.core.journal;
  whole : GrowsWhole l.fn.core.problem l.fn.core.state.best l.number l.fn.core.journal l.core.journal;
  best : l.fn.core.state.best ≤ℤ l.core.state.best;
  tickets : HasTickets l.number l.parcels l.k l.held l.core.state;
}
