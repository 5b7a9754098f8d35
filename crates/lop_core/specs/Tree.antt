-- The nodes of a search as a tree: their paths, and which of them are split.
use Rattle.std.specs.Prelude.{◌≡◌, ℕ, ℤ, pos, ◌<◌, List, [], ◌∷◌, ◌++◌, slice_get, slice_index_or, fold, count_by, Bool, true, false, Some}
use Rattle.lop_model.specs.declared.pair.Pair.{Pair}
use Rattle.lop_model.specs.Fixings.{IsLinearExtension}
use Rattle.lop_core.specs.declared.node.SearchNode.{SearchNode}
use Rattle.lop_core.specs.declared.node.Standing.{Standing}
use Rattle.lop_core.specs.declared.node.Standing.TheVariants.{Idle, Out, Split}

-- the root's pair, which plays no part
abbrev pub no_pair : Pair
no_pair = record { before = 0; after = 0 }

-- a new node: idle
abbrev pub child : ℕ → Pair → ℤ → SearchNode
child parent pair bound = record { parent = parent; pair = pair; bound = bound; standing = Idle }

-- the node of a number; past the end a made-up one
abbrev pub node_at : List SearchNode → ℕ → SearchNode
node_at nodes node = slice_index_or nodes node (child 0 no_pair (pos 0))

-- one more path: that of the node's parent, and the node's own pair
abbrev pub with_path_of : List (List Pair) → SearchNode → List (List Pair)
with_path_of known node = known ++ (slice_index_or known node.parent [] ++ node.pair ∷ []) ∷ []

-- the paths of the nodes, in their order; the root's is empty
unfoldable pub paths : List SearchNode → List (List Pair)
paths [] = []
paths (root ∷ nodes) = fold with_path_of ([] ∷ []) nodes

-- the pairs from the root to a node
abbrev pub path_of : List SearchNode → ℕ → List Pair
path_of nodes node = slice_index_or (paths nodes) node []

abbrev pub is_split : Standing → Bool
is_split Idle = false
is_split (Out worker) = false
is_split (Split first) = true

abbrev pub is_out : Standing → Bool
is_out Idle = false
is_out (Out worker) = true
is_out (Split first) = false

abbrev pub is_idle : Standing → Bool
is_idle Idle = true
is_idle (Out worker) = false
is_idle (Split first) = false

-- a node that isn't split
pub record IsOpen (nodes : List SearchNode) (node : ℕ) : Type 0 where
  pub it : SearchNode
  pub is_there : slice_get nodes node ≡ Some it
  pub unsplit : is_split it.standing ≡ false

-- the order extends the path of exactly one node that isn't split
pub record IsCoveredOnce (nodes : List SearchNode) (s : List ℕ) : Type 0 where
  pub node : ℕ
  pub is_open : IsOpen nodes node
  pub extends : IsLinearExtension s (path_of nodes node)
  pub only : (other : ℕ) → IsOpen nodes other → IsLinearExtension s (path_of nodes other) → other ≡ node

-- how many nodes are out
abbrev pub out_count : List SearchNode → ℕ
out_count nodes = count_by (λ (node : SearchNode). is_out node.standing) nodes

-- how many nodes are split
abbrev pub split_count : List SearchNode → ℕ
split_count nodes = count_by (λ (node : SearchNode). is_split node.standing) nodes

-- each node but the root comes after its parent, and its path is its parent's and its own pair
abbrev pub AreLinked : List SearchNode → Type 0
AreLinked nodes = (i : ℕ) (m : SearchNode) → slice_get nodes i ≡ Some m → 0 < i → (m.parent < i) × (path_of nodes i ≡ path_of nodes m.parent ++ m.pair ∷ [])
