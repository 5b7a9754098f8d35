-- The walk over the tree: from a node to the next one, by the links to the parents.
use Rattle.std.specs.Prelude.{◌≡◌, ◌⊎◌, ℕ, ◌+◌, List, [], ◌∷◌, ◌++◌, length, codes, Bool, false, ◌==◌, map, ℤ, pos}
use Rattle.std.specs.List.{flat_map}
use Rattle.lop_model.specs.declared.pair.Pair.{Pair}
use Rattle.lop_core.specs.declared.node.SearchNode.{SearchNode}
use Rattle.lop_core.specs.declared.node.Standing.{Standing}
use Rattle.lop_core.specs.declared.node.Standing.TheVariants.{Idle, Out, Split}
use Rattle.lop_core.specs.Tree.{node_at}
use Rattle.lop_core.specs.Records.{NodeRecord, record_at}
use Rattle.lop_certtext.specs.Line.{CertLine, line_text}
use Rattle.lop_cuts.specs.declared.kind.CutKind.{CutKind}
use Rattle.lop_certtext.specs.declared.word.CertWord.TheVariants.{Version, Objects, OrderLine, Value, Bound, Cuts, RecordsLine, Leaf, End}
use Rattle.lop_certtext.specs.CutLine.{numbers_of_objects, cut_line}
use Rattle.lop_certtext.specs.RecordLine.{record_line}
use Rattle.lop_certtext.specs.Tree.{split_line}
use Rattle.lop_certwrite.specs.CoreTree.{NodeTree, one_node, two_below, IsSplitInto, IsTreeAt, cert_record_of, users_in, place_among}

-- what the walk meets at a node: the pair by which it is split, or the number of a node that isn't split
pub data Visit : Type 0 where
  at_split : Pair → Visit
  at_open : ℕ → Visit

abbrev pub visit_by : List SearchNode → Standing → ℕ → Visit
visit_by nodes (Split first) node = at_split (node_at nodes first).pair
visit_by nodes Idle node = at_open node
visit_by nodes (Out worker) node = at_open node

abbrev pub visit_at : List SearchNode → ℕ → Visit
visit_at nodes node = visit_by nodes (node_at nodes node).standing node

-- what the walk meets in a subtree, and in several
abbrev pub visits_of : NodeTree → List Visit
visits_of (one_node number) = at_open number ∷ []
visits_of (two_below pair first second) = at_split pair ∷ (visits_of first ++ visits_of second)

abbrev pub visits_of_all : List NodeTree → List Visit
visits_of_all trees = flat_map visits_of trees

-- the nodes among these that aren't split
abbrev pub open_in : Visit → List ℕ
open_in (at_split pair) = []
open_in (at_open node) = node ∷ []

abbrev pub opens_in : List Visit → List ℕ
opens_in visits = flat_map open_in visits

-- the line of a node: its pair where it is split, and else the number of its record
abbrev pub visit_line : List ℕ → List ℕ → Visit → CertLine
visit_line numbers users (at_split pair) = split_line pair
visit_line numbers users (at_open node) = record { word = Leaf; numbers = pos (place_among numbers users node) ∷ [] }

abbrev pub visit_lines : List ℕ → List ℕ → List Visit → List CertLine
visit_lines numbers users visits = map (visit_line numbers users) visits

-- the subtrees that come after that of a node: those of the second children whose first child is on the way up
pub data IsPending (nodes : List SearchNode) : ℕ → List NodeTree → Type 0 where
  at_root : (node : ℕ) → node ≡ 0 → IsPending nodes node []
  at_first : (parent first : ℕ) (pair : Pair) (second : NodeTree) (rest : List NodeTree)
      → IsSplitInto nodes parent first pair → IsTreeAt nodes (first + 1) second → IsPending nodes parent rest → IsPending nodes first (second ∷ rest)
  at_second : (parent first : ℕ) (pair : Pair) (node : ℕ) (rest : List NodeTree)
      → IsSplitInto nodes parent first pair → node ≡ first + 1 → IsPending nodes parent rest → IsPending nodes node rest

-- the walk stands at a node, and these visits are left: those of its subtree and of the subtrees after it
pub record IsAt (nodes : List SearchNode) (node : ℕ) (visits : List Visit) : Type 0 where
  pub tree : NodeTree
  pub rest : List NodeTree
  pub is_tree : IsTreeAt nodes node tree
  pub pending : IsPending nodes node rest
  pub visits_are : visits ≡ visits_of tree ++ visits_of_all rest

-- no visit is left, or the walk stands at a node
abbrev pub IsLeft : List SearchNode → ℕ → List Visit → Type 0
IsLeft nodes node visits = (visits ≡ []) ⊎ IsAt nodes node visits

-- the first visit that is left at the node is its own, and the rest is left at the next node
pub record IsNext (nodes : List SearchNode) (node next : ℕ) : Type 0 where
  pub each : (visits : List Visit) → IsAt nodes node visits → (rest : List Visit) × (visits ≡ visit_at nodes node ∷ rest) × IsLeft nodes next rest

-- behind the subtree of the node, the walk goes on at the next node
pub record IsNextUp (nodes : List SearchNode) (node next : ℕ) : Type 0 where
  pub each : (trees : List NodeTree) → IsPending nodes node trees → IsLeft nodes next (visits_of_all trees)

-- so many nodes of the tree were met, by these visits, and the rest is left at the node
pub record IsWalkedTo (nodes : List SearchNode) (tree : NodeTree) (done : List Visit) (count node : ℕ) : Type 0 where
  pub to_come : List Visit
  pub parts : visits_of tree ≡ done ++ to_come
  pub stands : IsLeft nodes node to_come
  pub count_is : length to_come + count ≡ length nodes

-- a line with its LF
abbrev pub line_bytes : CertLine → List ℕ
line_bytes l = line_text l ++ codes "\n"

-- whether a node's first child is this one
abbrev pub is_first_of : Standing → ℕ → Bool
is_first_of (Split first) child = first == child
is_first_of Idle child = false
is_first_of (Out worker) child = false

-- the lines up to the value
abbrev pub order_lines : List ℕ → ℤ → List CertLine
order_lines s value =
    record { word = Version; numbers = pos 2 ∷ [] }
    ∷ record { word = Objects; numbers = pos (length s) ∷ [] }
    ∷ record { word = OrderLine; numbers = numbers_of_objects s }
    ∷ record { word = Value; numbers = value ∷ [] }
    ∷ []

-- the bound, and the number of cuts
abbrev pub bound_lines : ℤ → ℕ → List CertLine
bound_lines bound cuts = record { word = Bound; numbers = bound ∷ [] } ∷ record { word = Cuts; numbers = pos cuts ∷ [] } ∷ []

-- the line of the record of a node
abbrev pub user_line : List NodeRecord → ℕ → CertLine
user_line records node = record_line (cert_record_of (record_at records node))

-- how many records there are
abbrev pub count_line : ℕ → CertLine
count_line count = record { word = RecordsLine; numbers = pos count ∷ [] }

-- how many users there are, and their records
abbrev pub user_lines : List NodeRecord → List ℕ → List CertLine
user_lines records users = count_line (length users) ∷ map (user_line records) users

-- the cuts, the records, the tree and the end
abbrev pub body_lines : List CutKind → List NodeRecord → List ℕ → NodeTree → List CertLine
body_lines cuts records numbers tree =
    map cut_line cuts
    ++ (user_lines records (users_in numbers tree)
    ++ (visit_lines numbers (users_in numbers tree) (visits_of tree) ++ record { word = End; numbers = [] } ∷ []))
