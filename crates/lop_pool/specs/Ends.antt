-- How a search ends, and what contracts see of a pool.
use Rattle.std.specs.Prelude.{◌≡◌, ℕ}
use Rattle.lop_core.specs.Core.{CoreFields}
use Rattle.lop_core.specs.Machine.{IsLive}
use Rattle.lop_pool.specs.declared.end.SearchEnd.{SearchEnd}
use Rattle.lop_pool.specs.declared.end.SearchEnd.TheVariants.{Closed, Spent}

-- a pool as contracts see it: the number of objects, and the number of workers
pub record PoolFields : Type 0 where
  pub size : ℕ
  pub workers : ℕ

-- no node is live
abbrev pub NoneLive : CoreFields → Type 0
NoneLive core = (node : ℕ) → ¬ (IsLive core.state.nodes core.state.best node)

-- a node is live, and the budget is spent
abbrev pub IsSpent : CoreFields → Type 0
IsSpent core = ((node : ℕ) × IsLive core.state.nodes core.state.best node) × (core.state.evaluated ≡ core.problem.budget)

-- the end is the right one
abbrev pub IsEnd : CoreFields → SearchEnd → Type 0
IsEnd core Closed = NoneLive core
IsEnd core Spent = IsSpent core
