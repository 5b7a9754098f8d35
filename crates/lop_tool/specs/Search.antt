-- What a search found.
use Rattle.std.specs.Prelude.{◌≡◌, ℕ, ◌+◌, ◌*◌, ◌≤◌, List, [], ℤ, ◌≤ℤ◌, ◌<ℤ◌}
use Rattle.lop_core.specs.AllOrders.{factorial}
use Rattle.lop_tool.specs.Names.{IsOrder, Matrix, IsWeights, weight, IsUpperBound, packing_bound, IsBeckerOrder}
use Rattle.lop_tool.specs.Names.{IsClimbedFrom, state_bound, Problem, CoreFields, HasHistory, IsOutcome, IsFinished}

-- an order, its value, a bound, and how many nodes were evaluated
pub record Found : Type 0 where
  pub order : List ℕ
  pub value : ℤ
  pub bound : ℤ
  pub nodes : ℕ

-- what a core holds after its search
abbrev pub found_of : CoreFields → Found
found_of core = record { order = core.order; value = core.state.best; bound = state_bound core.state; nodes = core.state.evaluated }

-- the value is at least the weight of an order that a climb from the Becker order leads to: by insertions that each gain,
-- and which no insertion betters unless the climb stopped after 10 n² of them
pub record IsClimbed (C : Matrix) (value : ℤ) : Type 0 where
  pub start : List ℕ
  pub is_start : IsBeckerOrder C start
  pub order : List ℕ
  pub climb : IsClimbedFrom C start order
  pub least : weight C order ≤ℤ value

-- the numbers are those of a finished run of the search with this budget: the value is the order's weight, no order
-- weighs more than the bound, and the two differ only where the budget was spent, and not with a budget for all nodes
-- that there can be; the value is at least the weight of the start order and of what a climb from there leads to, and
-- the bound at most the packing bound
pub record IsSearched (C : Matrix) (budget : ℕ) (x : Found) : Type 0 where
  pub weights : IsWeights C
  pub outcome : IsOutcome C budget x.order x.value x.bound x.nodes
  pub order : IsOrder C.size x.order
  pub value_is : x.value ≡ weight C x.order
  pub bounds : IsUpperBound C x.bound
  pub spent : x.value <ℤ x.bound → x.nodes ≡ budget
  pub closed : 2 * factorial C.size ≤ budget + 1 → x.value ≡ x.bound
  pub from_start : (t : List ℕ) → IsBeckerOrder C t → weight C t ≤ℤ x.value
  pub climbed : IsClimbed C x.value
  pub packed : x.bound ≤ℤ packing_bound C []

-- a problem that may be searched: its start is at least the weight of the start order and of what a climb leads to
pub record IsPrepared (problem : Problem) : Type 0 where
  pub positive : 1 ≤ problem.budget
  pub weights : IsWeights problem.weights
  pub from_start : (t : List ℕ) → IsBeckerOrder problem.weights t → weight problem.weights t ≤ℤ problem.start
  pub climbed : IsClimbed problem.weights problem.start

-- these were found in C with this budget, as this core shows: its journal is lawful and its run finished
pub record IsSearchOf (C : Matrix) (budget : ℕ) (x : Found) (core : CoreFields) : Type 0 where
  pub found_is : x ≡ found_of core
  pub weights_are : core.problem.weights ≡ C
  pub budget_is : core.problem.budget ≡ budget
  pub history : HasHistory core
  pub finished : IsFinished core.problem core.state
  pub searched : IsSearched C budget x
