-- The candidates for the next take: the nodes that may be handed out, the best first.
use Rattle.std.specs.Prelude.{◌≡◌, ◌≢◌, ℕ, ℤ, ◌+◌, ◌≤◌, List, slice_get, Some, All, AllPairs, Contains, vec_capacity}
use Rattle.std.specs.declared.cmp.Ordering.{Ordering}
use Rattle.std.specs.Ordering.{int_cmp, nat_cmp, ordering_then}
use Rattle.std.specs.BinaryHeap.{IsHeap, heap_items, heap_len, heap_capacity}
use Rattle.lop_core.specs.declared.node.SearchNode.{SearchNode}
use Rattle.lop_core.specs.declared.candidates.Candidate.{Candidate}
use Rattle.lop_core.specs.declared.candidates.Candidates.{Candidates}
use Rattle.lop_core.specs.Tree.{node_at}
use Rattle.lop_core.specs.Machine.{SearchState, IsReady}

-- a node with its bound, as a candidate
abbrev pub candidate : ℤ → ℕ → Candidate
candidate bound node = record { bound = bound; node = record { 0 = node } }

-- the order of candidates: by their bounds, and of equal bounds the lower number is the greater
abbrev pub candidate_order : Candidate → Candidate → Ordering
candidate_order a b = ordering_then (int_cmp a.bound b.bound) (nat_cmp b.node.0 a.node.0)

-- the candidates, in the order in which the heap has them
abbrev pub candidates_of : Candidates → List Candidate
candidates_of c = heap_items c.heap

-- how many candidates there are
abbrev pub candidate_count : Candidates → ℕ
candidate_count c = heap_len c.heap

-- for how many there is room
abbrev pub candidate_room : Candidates → ℕ
candidate_room c = heap_capacity c.heap

-- the candidate on top names the node
pub record IsTop (cs : List Candidate) (node : ℕ) : Type 0 where
  pub top : Candidate
  pub is_there : slice_get cs 0 ≡ Some top
  pub names : top.node.0 ≡ node

-- the candidates are the live idle nodes, each once with its bound, and the top is the greatest
pub record AreCandidates (nodes : List SearchNode) (best : ℤ) (cs : List Candidate) : Type 0 where
  pub ordered : IsHeap candidate_order cs
  pub every : (node : ℕ) → IsReady nodes best node → Contains cs (candidate (node_at nodes node).bound node)
  pub ready : All (λ c. IsReady nodes best c.node.0) cs
  pub own : All (λ c. c.bound ≡ (node_at nodes c.node.0).bound) cs
  pub different : AllPairs (λ c d. c.node.0 ≢ d.node.0) cs

-- the candidates of a state of which so many nodes are out, and their room: for one more than the budget, and the candidates and the nodes that are out are at most one more than the evaluated nodes
pub record HasCandidates (s : SearchState) (budget out : ℕ) (c : Candidates) : Type 0 where
  pub kept : AreCandidates s.nodes s.best (candidates_of c)
  pub few : candidate_count c + out ≤ s.evaluated + 1
  pub room : budget + 1 ≤ candidate_room c
  pub spare : budget + 1 ≤ vec_capacity c.spare
