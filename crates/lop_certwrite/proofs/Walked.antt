-- The walk as it goes on: what was met, and what is left.
use Rattle.std.proofs.Common.{◌≡◌, ℕ, suc, ◌+◌, ◌<◌, ◌≤◌, true, false, List, [], ◌∷◌, ◌++◌, length, length-append, inl, inr, arith, sym, ◌∙◌, refl, ap, subst, append_assoc, Option, Result, IsErrAnd}
use Rattle.std.specs.Prelude.{All}
use Rattle.std.proofs.lemmas.List.{append-nil}
use Rattle.std.proofs.lemmas.List.Elements.{All-nil, All-cons, All-append}
use Rattle.std.proofs.lemmas.Grind.{flat_map-append}
use Rattle.lop_core.specs.declared.node.SearchNode.{SearchNode}
use Rattle.lop_core.specs.declared.node.Standing.TheVariants.{Split}
use Rattle.lop_core.specs.Tree.{node_at, is_split}
use Rattle.lop_desk.specs.World.{World, with_written}
use Rattle.lop_desk.specs.Whole.{WritesFront, WritesAll}
use Rattle.lop_desk.proofs.Worlds.{written_more}
use Rattle.lop_certtext.specs.Line.{CertLine}
use Rattle.lop_certtext.specs.Certificate.{text_of}
use Rattle.lop_certwrite.specs.CoreTree.{NodeTree, one_node, two_below, node_count, WholeTree, IsTreeAt, open_nodes, is_used, users_from, users_in}
use Rattle.lop_certwrite.specs.Walk.{at_root, Visit, IsAt, IsNext, IsWalkedTo, visit_at, visits_of, open_in, opens_in, visit_line, visit_lines, line_bytes}
use Rattle.lop_certwrite.proofs.CutLines.{map_append}
use Rattle.lop_certwrite.proofs.Users.{users_more, used_all}
use Rattle.lop_certwrite.proofs.WalkLemmas.{first_visit, open_visit, tree_inside, first_inside}
use Rattle.lop_certwrite.proofs.Written.{text_more, writes_cut, writes_then}

-- a tree has a visit for each of its nodes
length-visits_of : (tree : NodeTree) → length (visits_of tree) ≡ node_count tree
length-visits_of (one_node number) = refl
length-visits_of (two_below pair a b) =
    omega (arith, length-append (visits_of a) (visits_of b), length-visits_of a, length-visits_of b)

no_visits : (visits : List Visit) → length visits ≡ 0 → visits ≡ []
no_visits [] e = refl
no_visits (v ∷ visits) e = absurd (omega arith)

-- the open nodes of a tree are those that the walk meets
pub opens_of : (tree : NodeTree) → opens_in (visits_of tree) ≡ open_nodes tree
opens_of (one_node number) = refl
opens_of (two_below pair a b) =
    flat_map-append open_in (visits_of a) (visits_of b) ∙ (ap (λ (l : List ℕ). l ++ opens_in (visits_of b)) (opens_of a) ∙ ap (λ (l : List ℕ). open_nodes a ++ l) (opens_of b))

-- they are in the list of nodes
pub opens_inside : (nodes : List SearchNode) (node : ℕ) (tree : NodeTree) → IsTreeAt nodes node tree → All (λ i. i < length nodes) (open_nodes tree)
opens_inside nodes node (one_node number) t = All-cons (λ i. i < length nodes) number [] (subst (λ (i : ℕ). i < length nodes) (sym t.0) (tree_inside nodes node (one_node number) t)) (All-nil (λ i. i < length nodes))
opens_inside nodes node (two_below pair a b) t =
    All-append (λ i. i < length nodes) (open_nodes a) (open_nodes b) (opens_inside nodes t.0 a t.2) (opens_inside nodes (t.0 + 1) b t.3)

-- nothing was met yet
pub walk_starts : (nodes : List SearchNode) (whole : WholeTree nodes) → IsWalkedTo nodes whole.tree [] 0 0
walk_starts nodes whole = record {
  to_come = visits_of whole.tree;
  parts = refl;
  stands = inr (record { tree = whole.tree; rest = []; is_tree = whole.is_tree; pending = at_root 0 refl; visits_are = sym (append-nil (visits_of whole.tree)) });
  count_is = omega (arith, length-visits_of whole.tree, whole.complete);
}

module _ (nodes : List SearchNode) (tree : NodeTree) (done : List Visit) (count node : ℕ) (w : IsWalkedTo nodes tree done count node) where
  -- as long as visits are left, the walk stands at a node
  stands_at : count < length nodes → IsAt nodes node w.to_come
  stands_at more = elim w.stands [
    | inl none ↦ let size : length w.to_come ≡ 0 = ap length none in absurd (omega (arith, w.count_is))
    | inr at ↦ at
  ]

  pub walk_inside : count < length nodes → node < length nodes
  walk_inside more = let at = stands_at more in tree_inside nodes node at.tree at.is_tree

  pub walk_children : count < length nodes → (first : ℕ) → (node_at nodes node).standing ≡ Split first → first < length nodes
  walk_children more first st = let at = stands_at more in first_inside nodes node at.tree first at.is_tree st

  -- the visits are those that were made, that of the node, and more
  pub walk_parts : count < length nodes → (rest : List Visit) × (visits_of tree ≡ done ++ visit_at nodes node ∷ rest)
  walk_parts more =
      let first = first_visit nodes node w.to_come (stands_at more) in
      (first.0, w.parts ∙ ap (λ (vs : List Visit). done ++ vs) first.1)

  -- the node is met
  pub walk_goes : (next : ℕ) → count < length nodes → IsNext nodes node next → IsWalkedTo nodes tree (done ++ visit_at nodes node ∷ []) (count + 1) next
  walk_goes next more is_next =
      let step = is_next.each w.to_come (stands_at more) in
      let size : length w.to_come ≡ suc (length step.0) = ap length step.1 in
      record {
        to_come = step.0;
        parts = w.parts ∙ ap (λ (vs : List Visit). done ++ vs) step.1 ∙ sym (append_assoc done (visit_at nodes node ∷ []) step.0);
        stands = step.2;
        count_is = omega (arith, w.count_is);
      }

  -- all were met
  pub walk_ends : length nodes ≤ count → done ≡ visits_of tree
  walk_ends over =
      let none : w.to_come ≡ [] = no_visits w.to_come (omega (arith, w.count_is)) in
      sym (w.parts ∙ ap (λ (vs : List Visit). done ++ vs) none ∙ append-nil done)

  -- an open node's record is used
  pub walk_used : (numbers : List ℕ) → count < length nodes → is_split (node_at nodes node).standing ≡ false → is_used numbers (users_in numbers tree) node ≡ true
  walk_used numbers more st =
      let parts = walk_parts more in
      let own : opens_in (visit_at nodes node ∷ parts.0) ≡ node ∷ opens_in parts.0 = ap (λ (v : Visit). open_in v ++ opens_in parts.0) (open_visit nodes node (node_at nodes node).standing st) in
      let all : open_nodes tree ≡ opens_in done ++ node ∷ opens_in parts.0 =
      sym (opens_of tree) ∙ (ap opens_in parts.1 ∙ (flat_map-append open_in done (visit_at nodes node ∷ parts.0) ∙ ap (λ (l : List ℕ). opens_in done ++ l) own)) in
      ap (λ (l : List ℕ). is_used numbers (users_from numbers [] l) node) all ∙ used_all numbers [] (opens_in done) (opens_in parts.0) node

-- ---- the users of what was met

pub record IsFoundTo (nodes : List SearchNode) (numbers : List ℕ) (tree : NodeTree) (users : List ℕ) (count node : ℕ) : Type 0 where
  pub done : List Visit
  pub walked : IsWalkedTo nodes tree done count node
  pub found : users ≡ users_from numbers [] (opens_in done)

pub find_starts : (nodes : List SearchNode) (numbers users : List ℕ) (whole : WholeTree nodes) → users ≡ [] → IsFoundTo nodes numbers whole.tree users 0 0
find_starts nodes numbers users whole none = record { done = []; walked = walk_starts nodes whole; found = none }

module _ (nodes : List SearchNode) (numbers : List ℕ) (tree : NodeTree) (users : List ℕ) (count node : ℕ) (f : IsFoundTo nodes numbers tree users count node) where
  pub find_inside : count < length nodes → node < length nodes
  find_inside more = walk_inside nodes tree f.done count node f.walked more

  pub find_goes : (more_users : List ℕ) (next : ℕ) → count < length nodes → more_users ≡ users_from numbers users (open_in (visit_at nodes node)) → IsNext nodes node next → IsFoundTo nodes numbers tree more_users (count + 1) next
  find_goes more_users next more e is_next =
      let v : Visit = visit_at nodes node in
      record {
        done = f.done ++ visit_at nodes node ∷ [];
        walked = walk_goes nodes tree f.done count node f.walked next more is_next;
        found = e ∙ (ap (λ (us : List ℕ). users_from numbers us (open_in (visit_at nodes node))) f.found
            ∙ (sym (users_more numbers [] (opens_in f.done) (open_in (visit_at nodes node)))
            ∙ ap (λ (l : List ℕ). users_from numbers [] l) (ap (λ (l : List ℕ). opens_in f.done ++ l) (sym (append-nil (open_in (visit_at nodes node)))) ∙ sym (flat_map-append open_in f.done (visit_at nodes node ∷ [])))));
      }

  pub find_ends : length nodes ≤ count → users ≡ users_in numbers tree
  find_ends over = f.found ∙ ap (λ (vs : List Visit). users_from numbers [] (opens_in vs)) (walk_ends nodes tree f.done count node f.walked over) ∙ ap (users_from numbers []) (opens_of tree)

-- ---- the lines of what was met

pub record IsWrittenTo (nodes : List SearchNode) (numbers users : List ℕ) (old new : Option World) (tree : NodeTree) (count node : ℕ) : Type 0 where
  pub done : List Visit
  pub walked : IsWalkedTo nodes tree done count node
  pub written : new ≡ with_written (text_of (visit_lines numbers users done)) old

pub write_starts : (nodes : List SearchNode) (numbers users : List ℕ) (old : Option World) (whole : WholeTree nodes) → old ≡ with_written [] old → IsWrittenTo nodes numbers users old old whole.tree 0 0
write_starts nodes numbers users old whole none = record { done = []; walked = walk_starts nodes whole; written = none }

module _ (nodes : List SearchNode) (numbers users : List ℕ) (old mid : Option World) (tree : NodeTree) (count node : ℕ) (w : IsWrittenTo nodes numbers users old mid tree count node) where
  abbrev line : Visit → CertLine
  line = visit_line numbers users

  pub write_inside : count < length nodes → node < length nodes
  write_inside more = walk_inside nodes tree w.done count node w.walked more

  pub write_children : count < length nodes → (first : ℕ) → (node_at nodes node).standing ≡ Split first → first < length nodes
  write_children more = walk_children nodes tree w.done count node w.walked more

  pub write_used : users ≡ users_in numbers tree → count < length nodes → is_split (node_at nodes node).standing ≡ false → is_used numbers users node ≡ true
  write_used e more st = ap (λ (us : List ℕ). is_used numbers us node) e ∙ walk_used nodes tree w.done count node w.walked numbers more st

  -- the lines that were written, with those that come after
  lines_parts : (vs : List Visit) → visit_lines numbers users (w.done ++ vs) ≡ visit_lines numbers users w.done ++ visit_lines numbers users vs
  lines_parts vs = map_append (visit_line numbers users) w.done vs

  -- the node's line is written
  pub write_goes : (new : Option World) (next : ℕ) → count < length nodes → new ≡ with_written (line_bytes (visit_line numbers users (visit_at nodes node))) mid → IsNext nodes node next → IsWrittenTo nodes numbers users old new tree (count + 1) next
  write_goes new next more e is_next =
      let l : CertLine = visit_line numbers users (visit_at nodes node) in
      let text : List ℕ = text_of (visit_lines numbers users w.done) in
      record {
        done = w.done ++ visit_at nodes node ∷ [];
        walked = walk_goes nodes tree w.done count node w.walked next more is_next;
        written =
            e ∙ ap (λ (t : Option World). with_written (line_bytes (visit_line numbers users (visit_at nodes node))) t) w.written
            ∙ written_more (text_of (visit_lines numbers users w.done)) (line_bytes (visit_line numbers users (visit_at nodes node))) old
            ∙ ap (λ (bs : List ℕ). with_written bs old)
            (ap (λ (bs : List ℕ). text_of (visit_lines numbers users w.done) ++ bs) (sym (append-nil (line_bytes (visit_line numbers users (visit_at nodes node)))))
            ∙ sym (ap text_of (lines_parts (visit_at nodes node ∷ [])) ∙ text_more (visit_lines numbers users w.done) (visit_line numbers users (visit_at nodes node) ∷ [])));
      }

  -- the node's line is cut off
  pub write_cut : {E : Type 0} (new : Option World) (result : Result (Unit {0}) E) (Q : E → Type 0) → count < length nodes → IsErrAnd result Q → WritesFront mid new (line_bytes (visit_line numbers users (visit_at nodes node))) → WritesAll old new (text_of (visit_lines numbers users (visits_of tree))) result
  write_cut {E} new result Q more failed front =
      let parts = walk_parts nodes tree w.done count node w.walked more in
      let after : List CertLine = visit_lines numbers users parts.0 in
      let text : text_of (visit_lines numbers users (visits_of tree)) ≡ text_of (visit_lines numbers users w.done) ++ (line_bytes (visit_line numbers users (visit_at nodes node)) ++ text_of (visit_lines numbers users parts.0)) =
      ap (λ (vs : List Visit). text_of (visit_lines numbers users vs)) parts.1 ∙ (ap text_of (lines_parts (visit_at nodes node ∷ parts.0)) ∙ text_more (visit_lines numbers users w.done) (visit_line numbers users (visit_at nodes node) ∷ visit_lines numbers users parts.0)) in
      subst (λ (bs : List ℕ). WritesAll old new bs result) (sym text)
      (writes_then old mid new (text_of (visit_lines numbers users w.done)) (line_bytes (visit_line numbers users (visit_at nodes node)) ++ text_of (visit_lines numbers users parts.0)) result w.written
      (writes_cut mid new (line_bytes (visit_line numbers users (visit_at nodes node))) (text_of (visit_lines numbers users parts.0)) result Q failed front))

  -- all is written
  pub write_ends : length nodes ≤ count → mid ≡ with_written (text_of (visit_lines numbers users (visits_of tree))) old
  write_ends over = w.written ∙ ap (λ (vs : List Visit). with_written (text_of (visit_lines numbers users vs)) old) (walk_ends nodes tree w.done count node w.walked over)
