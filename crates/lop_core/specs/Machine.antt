-- The states of the search, and what an event leaves.
use Rattle.std.specs.Prelude.{◌≡◌, ℕ, ℤ, ◌+◌, ◌<◌, ◌<ℤ◌, ◌≤ℤ◌, List, [], ◌∷◌, ◌++◌, length, slice_get, slice_set, fold, count_by, false, not, ◌&&◌, Option, Some, None, if◌then◌else◌, int_lt}
use Rattle.std.specs.Int.{int_max}
use Rattle.lop_model.specs.declared.pair.Pair.{Pair}
use Rattle.lop_model.specs.Matrix.{Matrix}
use Rattle.lop_model.specs.Bound.{pair_bound}
use Rattle.lop_core.specs.declared.node.SearchNode.{SearchNode}
use Rattle.lop_core.specs.declared.node.Standing.{Standing}
use Rattle.lop_core.specs.declared.node.Standing.TheVariants.{Idle, Out, Split}
use Rattle.lop_core.specs.declared.journal.Entry.{Entry}
use Rattle.lop_core.specs.declared.journal.Entry.TheVariants.{Take, Report}
use Rattle.lop_core.specs.Tree.{no_pair, child, node_at, is_split, is_idle}
use Rattle.lop_model.specs.Reversed.{reversed}

-- what a search is about, and never changes: the weights, the weight of the order that it starts with, and how many nodes it may evaluate
pub record Problem : Type 0 where
  pub weights : Matrix
  pub start : ℤ
  pub budget : ℕ

-- a state of the search: its nodes, the greatest weight known, and how many nodes were evaluated
pub record SearchState : Type 0 where
  pub nodes : List SearchNode
  pub best : ℤ
  pub evaluated : ℕ

-- the root alone, idle, with the pair bound
abbrev pub root_state : Problem → SearchState
root_state problem = record {
  nodes = child 0 no_pair (pair_bound problem.weights []) ∷ [];
  best = problem.start;
  evaluated = 0;
}

-- the node gets this bound and this standing
abbrev pub changed : List SearchNode → ℕ → ℤ → Standing → List SearchNode
changed nodes node bound standing = slice_set nodes node (record (node_at nodes node) { bound = bound; standing = standing })

-- the node gets this bound and is closed
abbrev pub closed : SearchState → ℕ → ℤ → ℤ → SearchState
closed s node bound best = record {
  nodes = changed s.nodes node bound Idle;
  best = best;
  evaluated = s.evaluated + 1;
}

-- the node gets this bound and two idle children, that with the pair first, then that with the reverse
abbrev pub divided : SearchState → ℕ → ℤ → ℤ → Pair → SearchState
divided s node bound best pair = record {
  nodes = changed s.nodes node bound (Split (length s.nodes)) ++ child node pair bound ∷ child node (reversed pair) bound ∷ [];
  best = best;
  evaluated = s.evaluated + 1;
}

-- the node is split where a pair is given and its bound exceeds best, and else closed
abbrev pub settled : SearchState → ℕ → ℤ → ℤ → Option Pair → SearchState
settled s node bound best None = closed s node bound best
settled s node bound best (Some pair) = if int_lt best bound then divided s node bound best pair else closed s node bound best

-- the state after an event: the node is out to the worker, or best is the greater of best and the value, and the node is settled
unfoldable pub after : SearchState → Entry → SearchState
after s (Take worker node) = record s { nodes = changed s.nodes node (node_at s.nodes node).bound (Out worker) }
after s (Report worker node bound pair value room) =
    settled s node (if room then bound else (node_at s.nodes node).bound) (int_max s.best value) pair

-- the nodes that `settled` leaves
abbrev pub settled_nodes : List SearchNode → ℕ → ℤ → ℤ → Option Pair → List SearchNode
settled_nodes nodes node bound best pair = (settled (record { nodes = nodes; best = best; evaluated = 0 }) node bound best pair).nodes

-- the node is out to the worker
abbrev pub IsOutTo : SearchState → ℕ → ℕ → Type 0
IsOutTo s worker node = (it : SearchNode) × (slice_get s.nodes node ≡ Some it) × (it.standing ≡ Out worker)

-- the node isn't split, and its bound exceeds best
pub record IsLive (nodes : List SearchNode) (best : ℤ) (node : ℕ) : Type 0 where
  pub it : SearchNode
  pub is_there : slice_get nodes node ≡ Some it
  pub unsplit : is_split it.standing ≡ false
  pub above : best <ℤ it.bound

-- the node is live and idle
pub record IsReady (nodes : List SearchNode) (best : ℤ) (node : ℕ) : Type 0 where
  pub it : SearchNode
  pub is_there : slice_get nodes node ≡ Some it
  pub idle : it.standing ≡ Idle
  pub above : best <ℤ it.bound

-- the live idle node with the greatest bound, and of several the one with the lowest number
pub record IsFirstReady (nodes : List SearchNode) (best : ℤ) (node : ℕ) : Type 0 where
  pub ready : IsReady nodes best node
  pub greatest : (other : ℕ) → IsReady nodes best other → (node_at nodes other).bound ≤ℤ (node_at nodes node).bound
  pub first : (other : ℕ) → IsReady nodes best other → other < node → (node_at nodes other).bound <ℤ (node_at nodes node).bound

-- how many nodes are live
abbrev pub live_count : List SearchNode → ℤ → ℕ
live_count nodes best = count_by (λ (node : SearchNode). not (is_split node.standing) && int_lt best node.bound) nodes

-- how many of them are idle
abbrev pub ready_count : List SearchNode → ℤ → ℕ
ready_count nodes best = count_by (λ (node : SearchNode). is_idle node.standing && int_lt best node.bound) nodes

-- the greater of a number and the node's bound, if the node isn't split
abbrev pub raised_by : ℤ → SearchNode → ℤ
raised_by top node = if is_split node.standing then top else int_max top node.bound

-- the greatest of best and of the bounds of the nodes that aren't split
abbrev pub state_bound : SearchState → ℤ
state_bound s = fold raised_by s.best s.nodes
