-- A step of the walk.
use Rattle.std.proofs.Common.{◌≡◌, ◌≢◌, ℕ, ◌+◌, ◌<◌, List, [], ◌∷◌, ◌++◌, length, inl, inr, arith, sym, ◌∙◌, Some, refl, ap, subst, Bool, true, false, append_assoc, eq-eqb}
use Rattle.std.specs.Prelude.{slice_get}
use Rattle.std.proofs.lemmas.Bool.{ne_eqb}
use Rattle.std.proofs.lemmas.Option.{slice_get-get_or, slice_get_within, get_or_from_slice_get}
use Rattle.lop_model.specs.declared.pair.Pair.{Pair}
use Rattle.lop_core.specs.declared.node.SearchNode.{SearchNode}
use Rattle.lop_core.specs.declared.node.Standing.{Standing}
use Rattle.lop_core.specs.declared.node.Standing.TheVariants.{Idle, Out, Split}
use Rattle.lop_core.specs.Tree.{node_at, is_split, IsOpen, AreLinked}
use Rattle.lop_certwrite.specs.CoreTree.{NodeTree, one_node, two_below, IsSplitInto, IsTreeAt}
use Rattle.lop_certwrite.specs.Walk.{IsPending, at_root, at_first, at_second, IsAt, IsLeft, IsNext, IsNextUp, is_first_of, Visit, at_split, at_open, visit_by, visit_at, visits_of, visits_of_all}

-- the node at a place of the list
node_is : (nodes : List SearchNode) (i : ℕ) (x : SearchNode) → slice_get nodes i ≡ Some x → node_at nodes i ≡ x
node_is nodes i x e = get_or_from_slice_get nodes i x _ e

-- a split node's standing, and its children's parent
standing_is : (nodes : List SearchNode) (node first : ℕ) (pair : Pair) → IsSplitInto nodes node first pair → (node_at nodes node).standing ≡ Split first
standing_is nodes node first pair s = ap (λ (x : SearchNode). x.standing) (node_is nodes node s.it s.is_there) ∙ s.parted

one_parent_is : (nodes : List SearchNode) (node first : ℕ) (pair : Pair) → IsSplitInto nodes node first pair → (node_at nodes first).parent ≡ node
one_parent_is nodes node first pair s = ap (λ (x : SearchNode). x.parent) (node_is nodes first s.one s.one_there) ∙ s.one_parent

two_parent_is : (nodes : List SearchNode) (node first : ℕ) (pair : Pair) → IsSplitInto nodes node first pair → (node_at nodes (first + 1)).parent ≡ node
two_parent_is nodes node first pair s = ap (λ (x : SearchNode). x.parent) (node_is nodes (first + 1) s.two s.two_there) ∙ s.two_parent

-- whether a node is the first child
abbrev is_first_child : List SearchNode → ℕ → Bool
is_first_child nodes at = is_first_of (node_at nodes (node_at nodes at).parent).standing at

first_is_first : (nodes : List SearchNode) (node first : ℕ) (pair : Pair) → IsSplitInto nodes node first pair → is_first_child nodes first ≡ true
first_is_first nodes node first pair s =
    ap (λ (k : ℕ). is_first_of (node_at nodes k).standing first) (one_parent_is nodes node first pair s)
    ∙ ap (λ (st : Standing). is_first_of st first) (standing_is nodes node first pair s)
    ∙ eq-eqb first first refl

second_is_not : (nodes : List SearchNode) (node first : ℕ) (pair : Pair) → IsSplitInto nodes node first pair → is_first_child nodes (first + 1) ≡ false
second_is_not nodes node first pair s =
    ap (λ (k : ℕ). is_first_of (node_at nodes k).standing (first + 1)) (two_parent_is nodes node first pair s)
    ∙ ap (λ (st : Standing). is_first_of st (first + 1)) (standing_is nodes node first pair s)
    ∙ ne_eqb first (first + 1) (λ e. absurd (omega arith))

-- ---- up

pub up_root : (nodes : List SearchNode) (at : ℕ) (trees : List NodeTree) → at ≡ 0 → IsPending nodes at trees → trees ≡ []
up_root nodes at [] z (at_root node e) = refl
up_root nodes at (_ ∷ _) z (at_first parent first pair second rest s t p) = absurd (omega (arith, s.later))
up_root nodes at trees z (at_second parent first pair node rest s e p) = absurd (omega arith)

pub up_first : (nodes : List SearchNode) (at : ℕ) (trees : List NodeTree) → at ≢ 0 → is_first_child nodes at ≡ true → IsPending nodes at trees → IsAt nodes (at + 1) (visits_of_all trees)
up_first nodes at [] ne h (at_root node e) = absurd (ne e)
up_first nodes at (_ ∷ _) ne h (at_first parent first pair second rest s t p) = record {
  tree = second;
  rest = rest;
  is_tree = t;
  pending = at_second parent first pair (first + 1) rest s refl p;
  visits_are = refl;
}
up_first nodes at trees ne h (at_second parent first pair node rest s e p) =
    let f : false ≡ true = sym (second_is_not nodes parent first pair s) ∙ (ap (is_first_child nodes) (sym e) ∙ h) in
    cc

pub up_second : (nodes : List SearchNode) (at : ℕ) (trees : List NodeTree) → at ≢ 0 → is_first_child nodes at ≡ false → IsPending nodes at trees → IsPending nodes (node_at nodes at).parent trees
up_second nodes at [] ne h (at_root node e) = absurd (ne e)
up_second nodes at (_ ∷ _) ne h (at_first parent first pair second rest s t p) =
    let f : true ≡ false = sym (first_is_first nodes parent first pair s) ∙ h in
    cc
up_second nodes at trees ne h (at_second parent first pair node rest s e p) =
    subst (λ (k : ℕ). IsPending nodes k rest) (sym (ap (λ (k : ℕ). (node_at nodes k).parent) e ∙ two_parent_is nodes parent first pair s)) p

-- ---- down, and from a leaf on

pub open_visit : (nodes : List SearchNode) (node : ℕ) (standing : Standing) → is_split standing ≡ false → visit_by nodes standing node ≡ at_open node
open_visit nodes node Idle e = refl
open_visit nodes node (Out w) e = refl
open_visit nodes node (Split first) e = absurd (cc)

-- an open node isn't split
open_standing : (nodes : List SearchNode) (node : ℕ) → IsOpen nodes node → is_split (node_at nodes node).standing ≡ false
open_standing nodes node o = ap (λ (x : SearchNode). is_split x.standing) (node_is nodes node o.it o.is_there) ∙ o.unsplit

split_injective : (a b : ℕ) → Split a ≡ Split b → a ≡ b
split_injective a b e = cc

module _ (nodes : List SearchNode) (node : ℕ) where
  -- the first visit that is left is the node's own
  own_visit : (tree : NodeTree) (rest : List NodeTree) (visits : List Visit) → IsTreeAt nodes node tree → visits ≡ visits_of tree ++ visits_of_all rest → (more : List Visit) × (visits ≡ visit_at nodes node ∷ more)
  own_visit (one_node number) rest visits t e =
      (visits_of_all rest, e ∙ ap (λ (l : Visit). l ∷ visits_of_all rest) (ap (λ (k : ℕ). at_open k) t.0 ∙ sym (open_visit nodes node (node_at nodes node).standing (open_standing nodes node t.1))))
  own_visit (two_below pair a b) rest visits t e =
      let line : visit_at nodes node ≡ at_split pair =
      ap (λ (s : Standing). visit_by nodes s node) (standing_is nodes node t.0 pair t.1) ∙ ap (λ (x : SearchNode). at_split x.pair) (node_is nodes t.0 t.1.one t.1.one_there) ∙ ap at_split t.1.one_pair in
      ((visits_of a ++ visits_of b) ++ visits_of_all rest, e ∙ ap (λ (l : Visit). l ∷ ((visits_of a ++ visits_of b) ++ visits_of_all rest)) (sym line))

  pub first_visit : (visits : List Visit) → IsAt nodes node visits → (more : List Visit) × (visits ≡ visit_at nodes node ∷ more)
  first_visit visits a = own_visit a.tree a.rest visits a.is_tree a.visits_are

  first_next : (first : ℕ) → (node_at nodes node).standing ≡ Split first → (tree : NodeTree) (rest : List NodeTree) (visits : List Visit) → IsTreeAt nodes node tree → IsPending nodes node rest → visits ≡ visits_of tree ++ visits_of_all rest
      → (more : List Visit) × (visits ≡ visit_at nodes node ∷ more) × IsLeft nodes first more
  first_next first st (one_node number) rest visits t p e =
      let f : false ≡ true = sym (open_standing nodes node t.1) ∙ ap is_split st in
      cc
  first_next first st (two_below pair a b) rest visits t p e =
      let same : t.0 ≡ first = split_injective t.0 first (sym (standing_is nodes node t.0 pair t.1) ∙ st) in
      let line : visit_at nodes node ≡ at_split pair =
      ap (λ (s : Standing). visit_by nodes s node) (standing_is nodes node t.0 pair t.1) ∙ ap (λ (x : SearchNode). at_split x.pair) (node_is nodes t.0 t.1.one t.1.one_there) ∙ ap at_split t.1.one_pair in (
        visits_of a ++ (visits_of b ++ visits_of_all rest),
        e ∙ ap (λ (ls : List Visit). at_split pair ∷ ls) (append_assoc (visits_of a) (visits_of b) (visits_of_all rest))
            ∙ ap (λ (l : Visit). l ∷ (visits_of a ++ (visits_of b ++ visits_of_all rest))) (sym line),
        inr (subst (λ (k : ℕ). IsAt nodes k (visits_of a ++ (visits_of b ++ visits_of_all rest))) same
            (record { tree = a; rest = b ∷ rest; is_tree = t.2; pending = at_first node t.0 pair b rest t.1 t.3 p; visits_are = refl })),
      )

  leaf_next : (next : ℕ) → is_split (node_at nodes node).standing ≡ false → IsNextUp nodes node next → (tree : NodeTree) (rest : List NodeTree) (visits : List Visit) → IsTreeAt nodes node tree → IsPending nodes node rest → visits ≡ visits_of tree ++ visits_of_all rest
      → (more : List Visit) × (visits ≡ visit_at nodes node ∷ more) × IsLeft nodes next more
  leaf_next next st up (one_node number) rest visits t p e =
      (visits_of_all rest, e ∙ ap (λ (l : Visit). l ∷ visits_of_all rest) (ap (λ (k : ℕ). at_open k) t.0 ∙ sym (open_visit nodes node (node_at nodes node).standing st)), up.each rest p)
  leaf_next next st up (two_below pair a b) rest visits t p e =
      let f : false ≡ true = sym st ∙ ap is_split (standing_is nodes node t.0 pair t.1) in
      cc

  pub next_first : (first : ℕ) → (node_at nodes node).standing ≡ Split first → IsNext nodes node first
  next_first first st = record { each = λ visits a. first_next first st a.tree a.rest visits a.is_tree a.pending a.visits_are }

  pub next_leaf : (next : ℕ) → is_split (node_at nodes node).standing ≡ false → IsNextUp nodes node next → IsNext nodes node next
  next_leaf next st up = record { each = λ visits a. leaf_next next st up a.tree a.rest visits a.is_tree a.pending a.visits_are }

-- ---- the nodes of a tree are in the list

pub tree_inside : (nodes : List SearchNode) (node : ℕ) (tree : NodeTree) → IsTreeAt nodes node tree → node < length nodes
tree_inside nodes node (one_node number) t = slice_get_within nodes node t.1.it t.1.is_there
tree_inside nodes node (two_below pair a b) t = slice_get_within nodes node t.1.it t.1.is_there

pub first_inside : (nodes : List SearchNode) (node : ℕ) (tree : NodeTree) (first : ℕ) → IsTreeAt nodes node tree → (node_at nodes node).standing ≡ Split first → first < length nodes
first_inside nodes node (one_node number) first t st =
    let f : false ≡ true = sym (open_standing nodes node t.1) ∙ ap is_split st in
    cc
first_inside nodes node (two_below pair a b) first t st =
    let same : t.0 ≡ first = split_injective t.0 first (sym (standing_is nodes node t.0 pair t.1) ∙ st) in
    subst (λ (k : ℕ). k < length nodes) same (slice_get_within nodes t.0 t.1.one t.1.one_there)

-- ---- a step of the climb, with the parent as it is read

module _ (nodes : List SearchNode) (at parent : ℕ) (ne : at ≢ 0) (e : parent ≡ (node_at nodes at).parent) where
  pub parent_before : AreLinked nodes → at < length nodes → parent < at
  parent_before linked inside = rw e ((linked at (node_at nodes at) (slice_get-get_or nodes at _ inside) (omega (arith, ne))).0)

  pub goes_first : (node : ℕ) → is_first_of (node_at nodes parent).standing at ≡ true → ((trees : List NodeTree) → IsPending nodes node trees → IsPending nodes at trees) → IsNextUp nodes node (at + 1)
  goes_first node first same = record { each = λ trees p. inr (up_first nodes at trees ne (ap (λ (k : ℕ). is_first_of (node_at nodes k).standing at) (sym e) ∙ first) (same trees p)) }

  pub goes_up : (trees : List NodeTree) → is_first_of (node_at nodes parent).standing at ≡ false → IsPending nodes at trees → IsPending nodes parent trees
  goes_up trees first p = subst (λ (k : ℕ). IsPending nodes k trees) (sym e) (up_second nodes at trees ne (ap (λ (k : ℕ). is_first_of (node_at nodes k).standing at) (sym e) ∙ first) p)

-- at the root nothing is left
pub ends_up : (nodes : List SearchNode) (node at : ℕ) → at ≡ 0 → ((trees : List NodeTree) → IsPending nodes node trees → IsPending nodes at trees) → IsNextUp nodes node 0
ends_up nodes node at z same = record { each = λ trees p. inl (ap visits_of_all (up_root nodes at trees z (same trees p))) }
