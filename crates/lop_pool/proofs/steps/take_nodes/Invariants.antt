use Rattle.std.proofs.Common.{◌≡◌, length}
use Rattle.std.specs.Prelude.{ℤ, ◌≤ℤ◌, All}
use Rattle.lop_core.specs.Core.{HasHistory}
use Rattle.lop_pool.specs.Events.{IsGrown}
use Rattle.lop_pool.specs.Holding.{AreSoundTickets, HasTickets}
use Rattle.lop_pool.specs.Marks.{GrowsWhole}
use Rattle.lop_pool.specs.Workers.{ParcelFits}
use Rattle.lop_pool.proofs.steps.take_nodes.Given as goal

abbrev pub invariant-loop-k : goal.invariant-loop-k
invariant-loop-k g l = record {
  len : length l.parcels ≡ length l.fn.parcels;
  fits : All (ParcelFits l.fn.core.problem.weights.size) l.parcels;
  same_problem : l.core.problem ≡ l.fn.core.problem;
  grown : IsGrown l.number l.fn.core.journal l.core.journal;
  whole : (mark : ℤ) → GrowsWhole l.fn.core.problem mark l.number l.fn.core.journal l.core.journal;
  best : l.fn.core.state.best ≤ℤ l.core.state.best;
  history : HasHistory l.core;
  tickets : HasTickets l.number l.parcels 0 l.k l.core.state;
  sound : AreSoundTickets l.fn.core.problem.weights l.parcels l.k;
}
