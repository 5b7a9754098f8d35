-- The nodes that are out, by their numbers.
use Rattle.std.specs.Prelude.{◌≡◌, ℕ, ◌+◌, ◌≤◌, List, [], ◌∷◌, Bool, true, false}
use Rattle.std.specs.List.{sum_by}
use Rattle.lop_core.specs.declared.node.SearchNode.{SearchNode}
use Rattle.lop_core.specs.Tree.{is_out}

-- one number more where the test holds
abbrev pub with_number : Bool → ℕ → List ℕ → List ℕ
with_number true number rest = number ∷ rest
with_number false number rest = rest

-- the numbers of the nodes that are out, in their order, where the first node has the number i
abbrev pub outs_from : ℕ → List SearchNode → List ℕ
outs_from i [] = []
outs_from i (node ∷ nodes) = with_number (is_out node.standing) i (outs_from (i + 1) nodes)

-- the list has the nodes that are out, each once, in whatever order: any sum over it is the sum over those; and there is room for as many as the budget allows
pub record HasOuts (nodes : List SearchNode) (budget : ℕ) (outs : List ℕ) (room : ℕ) : Type 0 where
  pub are : (f : ℕ → ℕ) → sum_by f outs ≡ sum_by f (outs_from 0 nodes)
  pub enough : budget ≤ room
