-- The nodes of a core as the tree of its certificate.
use Rattle.std.specs.Prelude.{◌≡◌, ℕ, ◌+◌, ◌<◌, Bool, ◌==◌, List, [], ◌∷◌, ◌++◌, length, map, slice_get, Some, if◌then◌else◌}
use Rattle.std.specs.List.{list_any, position_or_len}
use Rattle.lop_model.specs.declared.pair.Pair.{Pair}
use Rattle.lop_core.specs.declared.node.SearchNode.{SearchNode}
use Rattle.lop_core.specs.declared.node.Standing.TheVariants.{Split}
use Rattle.lop_core.specs.Tree.{IsOpen}
use Rattle.lop_model.specs.Reversed.{reversed}
use Rattle.lop_core.specs.Records.{NodeRecord, record_at, number_at}
use Rattle.lop_core.specs.Core.{CoreFields}
use Rattle.lop_core.specs.Machine.{state_bound}
use Rattle.lop_certtext.specs.RecordLine.{CertRecord}
use Rattle.lop_certtext.specs.Tree.{Tree, leaf, split}
use Rattle.lop_certtext.specs.Certificate.{Certificate}

-- the nodes of a subtree: the number of a node that isn't split, or a pair and the subtrees of two children
pub data NodeTree : Type 0 where
  one_node : ℕ → NodeTree
  two_below : Pair → NodeTree → NodeTree → NodeTree

-- how many nodes a subtree has
abbrev pub node_count : NodeTree → ℕ
node_count (one_node number) = 1
node_count (two_below pair first second) = 1 + (node_count first + node_count second)

-- the node is split into the nodes first and first + 1, by a pair and its reverse
pub record IsSplitInto (nodes : List SearchNode) (node first : ℕ) (pair : Pair) : Type 0 where
  pub it : SearchNode
  pub is_there : slice_get nodes node ≡ Some it
  pub parted : it.standing ≡ Split first
  pub later : node < first
  pub one : SearchNode
  pub one_there : slice_get nodes first ≡ Some one
  pub one_parent : one.parent ≡ node
  pub one_pair : one.pair ≡ pair
  pub two : SearchNode
  pub two_there : slice_get nodes (first + 1) ≡ Some two
  pub two_parent : two.parent ≡ node
  pub two_pair : two.pair ≡ reversed pair

-- the subtree of a node: the same pairs, each first child before the second, and the nodes that aren't split as leaves
abbrev pub IsTreeAt : List SearchNode → ℕ → NodeTree → Type 0
IsTreeAt nodes node (one_node number) = (number ≡ node) × IsOpen nodes node
IsTreeAt nodes node (two_below pair first second) =
    (child : ℕ) × IsSplitInto nodes node child pair × IsTreeAt nodes child first × IsTreeAt nodes (child + 1) second

-- a node's record as a certificate has it, where cuts count from 1
abbrev pub cert_record_of : NodeRecord → CertRecord
cert_record_of r = record { scale = r.scale; terms = map (λ t. record { cut = t.cut + 1; multiplier = t.multiplier }) r.terms }

-- the nodes that aren't split, in preorder
abbrev pub open_nodes : NodeTree → List ℕ
open_nodes (one_node number) = number ∷ []
open_nodes (two_below pair first second) = open_nodes first ++ open_nodes second

-- one of the nodes has the record of this one
abbrev pub is_used : List ℕ → List ℕ → ℕ → Bool
is_used numbers users node = list_any (λ other. number_at numbers other == number_at numbers node) users

-- the nodes with one more, if none of them has its record
abbrev pub with_user : List ℕ → List ℕ → ℕ → List ℕ
with_user numbers users node = if is_used numbers users node then users else users ++ node ∷ []

-- the first node of each record, in turn, behind those so far; records are told apart by their numbers
abbrev pub users_from : List ℕ → List ℕ → List ℕ → List ℕ
users_from numbers users [] = users
users_from numbers users (node ∷ nodes) = users_from numbers (with_user numbers users node) nodes

-- the first node of each record that leaves use, in the order of that first use
abbrev pub users_in : List ℕ → NodeTree → List ℕ
users_in numbers tree = users_from numbers [] (open_nodes tree)

-- the place, from 1, of a node's record among those of the users
abbrev pub place_among : List ℕ → List ℕ → ℕ → ℕ
place_among numbers users node = position_or_len (λ other. number_at numbers other == number_at numbers node) users + 1

-- the tree of a certificate: each leaf names its node's record
abbrev pub certificate_tree : List ℕ → List ℕ → NodeTree → Tree
certificate_tree numbers users (one_node number) = leaf (place_among numbers users number)
certificate_tree numbers users (two_below pair first second) = split pair (certificate_tree numbers users first) (certificate_tree numbers users second)

-- the whole tree: that of the root, with each node of the list
pub record WholeTree (nodes : List SearchNode) : Type 0 where
  pub tree : NodeTree
  pub is_tree : IsTreeAt nodes 0 tree
  pub complete : node_count tree ≡ length nodes

-- the certificate of a core: best with its order, the core's bound, its cuts in order, the records that leaves use, each once, in the order of their first use in preorder, and its tree
pub record IsCertificateOf (core : CoreFields) (c : Certificate) : Type 0 where
  pub order_is : c.order ≡ core.order
  pub value_is : c.value ≡ core.state.best
  pub bound_is : c.bound ≡ state_bound core.state
  pub cuts_are : c.cuts ≡ core.book.cuts
  pub whole : WholeTree core.state.nodes
  pub records_are : c.records ≡ map (λ node. cert_record_of (record_at core.book.records node)) (users_in core.book.numbers whole.tree)
  pub tree_is : c.tree ≡ certificate_tree core.book.numbers (users_in core.book.numbers whole.tree) whole.tree
