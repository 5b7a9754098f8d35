-- The nodes of every lawful journal's replay are one tree: that of the root, which has each node once.
use Rattle.std.proofs.Common.{◌≡◌, ◌≢◌, ℕ, ◌+◌, ◌*◌, ◌<◌, ◌≤◌, List, [], ◌∷◌, ◌++◌, length, ◌⊎◌, inl, inr, arith, sym, ◌∙◌, Some, None, Option, refl, ap, subst, Bool, true, false, cond, eqb, length-set, length-append, eq-eqb}
use Rattle.std.specs.Prelude.{slice_get, ℤ, int_lt}
use Rattle.std.proofs.lemmas.Bool.{cases_eq, eqb-true, ne_eqb}
use Rattle.std.proofs.lemmas.Option.{slice_get_within, get_or_from_slice_get, same_Some}
use Rattle.lop_model.specs.declared.pair.Pair.{Pair}
use Rattle.lop_core.proofs.Lists.{slice_get-set_same, slice_get-set_other, slice_get-append_left, slice_get_at, slice_get_two_second, slice_get_two_cases, by_following}
use Rattle.lop_core.specs.declared.node.SearchNode.{SearchNode}
use Rattle.lop_core.specs.declared.node.Standing.{Standing}
use Rattle.lop_core.specs.declared.node.Standing.TheVariants.{Idle, Out, Split}
use Rattle.lop_core.specs.declared.journal.Entry.{Entry}
use Rattle.lop_core.specs.declared.journal.Entry.TheVariants.{Take, Report}
use Rattle.lop_core.specs.Tree.{no_pair, child, node_at, is_split, IsOpen}
use Rattle.lop_model.specs.Reversed.{reversed}
use Rattle.lop_core.specs.Machine.{Problem, SearchState, after, settled, divided, closed, changed}
use Rattle.lop_core.specs.Journal.{replay, MayFollow, IsLawfulJournal}
use Rattle.lop_core.specs.Core.{CoreFields, HasHistory}
use Rattle.lop_model.specs.Bound.{pair_bound}
use Rattle.lop_core.proofs.Replay.{replay_push}
use Rattle.lop_certwrite.specs.CoreTree.{NodeTree, one_node, two_below, node_count, IsSplitInto, IsTreeAt, WholeTree}

abbrev one_if : Bool → ℕ
one_if b = cond b 1 0

-- how often a node is a leaf of the tree
abbrev copies : ℕ → NodeTree → ℕ
copies j (one_node number) = one_if (eqb number j)
copies j (two_below pair first second) = copies j first + copies j second

-- the tree of the root has as many nodes as the list, and each node that isn't split is a leaf once
record IsRooted (nodes : List SearchNode) (tree : NodeTree) : Type 0 where
  pub is_tree : IsTreeAt nodes 0 tree
  pub complete : node_count tree ≡ length nodes
  pub once : (j : ℕ) → IsOpen nodes j → copies j tree ≡ 1

abbrev HasTree : List SearchNode → Type 0
HasTree nodes = (tree : NodeTree) × IsRooted nodes tree

-- ---- the node i, which is open, changes; it keeps its parent and its pair, and all other nodes stay

-- the parent and the pair that a node keeps
record HasKept (new : List SearchNode) (j : ℕ) (x : SearchNode) : Type 0 where
  pub it : SearchNode
  pub is_there : slice_get new j ≡ Some it
  pub parent : it.parent ≡ x.parent
  pub pair : it.pair ≡ x.pair

record IsChanged (old new : List SearchNode) (i : ℕ) : Type 0 where
  pub was_open : IsOpen old i
  pub others : (j : ℕ) (x : SearchNode) → j ≢ i → slice_get old j ≡ Some x → slice_get new j ≡ Some x
  pub own : (x : SearchNode) → slice_get old i ≡ Some x → HasKept new i x

module _ (old new : List SearchNode) (i : ℕ) (change : IsChanged old new i) where
  kept : (j : ℕ) (x : SearchNode) → slice_get old j ≡ Some x → HasKept new j x
  kept j x e = elim (cases_eq j i) [
    | inl same ↦ subst (λ (k : ℕ). HasKept new k x) (sym same) (change.own x (ap (slice_get old) (sym same) ∙ e))
    | inr other ↦ record { it = x; is_there = change.others j x other e; parent = refl; pair = refl }
  ]

  -- a split node is another one
  split_other : (node first : ℕ) (x : SearchNode) → slice_get old node ≡ Some x → x.standing ≡ Split first → node ≢ i
  split_other node first x e parted same =
      let it : change.was_open.it ≡ x = same_Some _ x (sym change.was_open.is_there ∙ (ap (slice_get old) (sym same) ∙ e)) in
      let f : false ≡ true = sym change.was_open.unsplit ∙ (ap (λ (y : SearchNode). is_split y.standing) it ∙ ap is_split parted) in
      cc

  kept_split : (node first : ℕ) (pair : Pair) → IsSplitInto old node first pair → IsSplitInto new node first pair
  kept_split node first pair s =
      let one = kept first s.one s.one_there in
      let two = kept (first + 1) s.two s.two_there in
      record {
        it = s.it;
        is_there = change.others node s.it (split_other node first s.it s.is_there s.parted) s.is_there;
        parted = s.parted;
        later = s.later;
        one = one.it;
        one_there = one.is_there;
        one_parent = one.parent ∙ s.one_parent;
        one_pair = one.pair ∙ s.one_pair;
        two = two.it;
        two_there = two.is_there;
        two_parent = two.parent ∙ s.two_parent;
        two_pair = two.pair ∙ s.two_pair;
      }

  kept_open : IsOpen new i → (node : ℕ) → IsOpen old node → IsOpen new node
  kept_open o node h = elim (cases_eq node i) [
    | inl same ↦ subst (IsOpen new) (sym same) o
    | inr other ↦ record { it = h.it; is_there = change.others node h.it other h.is_there; unsplit = h.unsplit }
  ]

  -- it stays open: the tree stays
  kept_tree : IsOpen new i → (node : ℕ) (tree : NodeTree) → IsTreeAt old node tree → IsTreeAt new node tree
  kept_tree o node (one_node number) t = (t.0, kept_open o node t.1)
  kept_tree o node (two_below pair first second) t = (t.0, kept_split node t.0 pair t.1, kept_tree o t.0 first t.2, kept_tree o (t.0 + 1) second t.3)

-- ---- a node that is open is changed and stays open

module _ (nodes : List SearchNode) (i : ℕ) (m : SearchNode) (there : slice_get nodes i ≡ Some m) (was_open : is_split m.standing ≡ false) (bound : ℤ) (standing : Standing) where
  inside : i < length nodes
  inside = slice_get_within nodes i m there

  changed_there : slice_get (changed nodes i bound standing) i ≡ Some (record (node_at nodes i) { bound = bound; standing = standing })
  changed_there = slice_get-set_same nodes i _ inside

  changed_own : (x : SearchNode) → slice_get nodes i ≡ Some x → HasKept (changed nodes i bound standing) i x
  changed_own x e =
      let it : node_at nodes i ≡ x = get_or_from_slice_get nodes i x _ e in
      record {
        it = record (node_at nodes i) { bound = bound; standing = standing };
        is_there = changed_there;
        parent = ap (λ (y : SearchNode). y.parent) it;
        pair = ap (λ (y : SearchNode). y.pair) it;
      }

  is_changed : IsChanged nodes (changed nodes i bound standing) i
  is_changed = record {
    was_open = record { it = m; is_there = there; unsplit = was_open };
    others = λ j x ne e. slice_get-set_other nodes i j _ ne ∙ e;
    own = changed_own;
  }

  -- what is open was open
  open_before : (j : ℕ) → IsOpen (changed nodes i bound standing) j → IsOpen nodes j
  open_before j o = elim (cases_eq j i) [
    | inl same ↦ record { it = m; is_there = ap (slice_get nodes) same ∙ there; unsplit = was_open }
    | inr other ↦ record { it = o.it; is_there = sym (slice_get-set_other nodes i j _ other) ∙ o.is_there; unsplit = o.unsplit }
  ]

  kept_rooted : is_split standing ≡ false → (tree : NodeTree) → IsRooted nodes tree → IsRooted (changed nodes i bound standing) tree
  kept_rooted is_open tree r = record {
    is_tree = kept_tree nodes (changed nodes i bound standing) i is_changed (record { it = record (node_at nodes i) { bound = bound; standing = standing }; is_there = changed_there; unsplit = is_open }) 0 tree r.is_tree;
    complete = r.complete ∙ sym (length-set nodes i _);
    once = λ j o. r.once j (open_before j o);
  }

-- ---- the leaf of a node becomes a split into two leaves

abbrev grown : NodeTree → ℕ → Pair → ℕ → NodeTree
grown (one_node number) i pair first = cond (eqb number i) (two_below pair (one_node first) (one_node (first + 1))) (one_node number)
grown (two_below p a b) i pair first = two_below p (grown a i pair first) (grown b i pair first)

count_leaf : (b : Bool) (number first : ℕ) (pair : Pair) → node_count (cond b (two_below pair (one_node first) (one_node (first + 1))) (one_node number)) ≡ 1 + 2 * one_if b
count_leaf true number first pair = refl
count_leaf false number first pair = refl

count_grown : (tree : NodeTree) (i first : ℕ) (pair : Pair) → node_count (grown tree i pair first) ≡ node_count tree + 2 * copies i tree
count_grown (one_node number) i first pair = count_leaf (eqb number i) number first pair
count_grown (two_below p a b) i first pair = omega (arith, count_grown a i first pair, count_grown b i first pair)

-- how often a node is a leaf then: the split one never, each of the two new ones as often as the split one was, and all others as before
copies_leaf : (b : Bool) (number first j : ℕ) (pair : Pair) → copies j (cond b (two_below pair (one_node first) (one_node (first + 1))) (one_node number)) ≡ cond b (one_if (eqb first j) + one_if (eqb (first + 1) j)) (one_if (eqb number j))
copies_leaf true number first j pair = refl
copies_leaf false number first j pair = refl

module _ (i first : ℕ) (pair : Pair) where
  other_leaf : (b : Bool) (number j : ℕ) → eqb number i ≡ b → j ≢ i → eqb first j ≡ false → eqb (first + 1) j ≡ false → cond b (one_if (eqb first j) + one_if (eqb (first + 1) j)) (one_if (eqb number j)) ≡ one_if (eqb number j)
  other_leaf false number j e ne f g = refl
  other_leaf true number j e ne f g =
      let same : number ≡ i = eqb-true number i e in
      let away : eqb number j ≡ false = ne_eqb number j (λ h. ne (sym h ∙ same)) in
      rw (f, g, away) refl

  copies_other : (tree : NodeTree) (j : ℕ) → j ≢ i → j ≢ first → j ≢ first + 1 → copies j (grown tree i pair first) ≡ copies j tree
  copies_other (one_node number) j ne f g =
      copies_leaf (eqb number i) number first j pair ∙ other_leaf (eqb number i) number j refl ne (ne_eqb first j (λ h. f (sym h))) (ne_eqb (first + 1) j (λ h. g (sym h)))
  copies_other (two_below p a b) j ne f g = omega (arith, copies_other a j ne f g, copies_other b j ne f g)

  -- a new node, which was no leaf
  new_leaf : (b : Bool) (number j : ℕ) → eqb number j ≡ false → one_if (eqb first j) + one_if (eqb (first + 1) j) ≡ 1 → cond b (one_if (eqb first j) + one_if (eqb (first + 1) j)) (one_if (eqb number j)) ≡ one_if b + one_if (eqb number j)
  new_leaf true number j away one = rw (away, one) refl
  new_leaf false number j away one = omega arith

  copies_new : (tree : NodeTree) (j : ℕ) → copies j tree ≡ 0 → one_if (eqb first j) + one_if (eqb (first + 1) j) ≡ 1 → copies j (grown tree i pair first) ≡ copies i tree
  copies_new (one_node number) j none one =
      let away : eqb number j ≡ false = never (eqb number j) none in
      copies_leaf (eqb number i) number first j pair ∙ (new_leaf (eqb number i) number j away one ∙ alone (one_if (eqb number i)) (one_if (eqb number j)) none)
    where
      never : (b : Bool) → one_if b ≡ 0 → b ≡ false
      never false e = refl
      never true e = absurd (omega arith)

      alone : (a b : ℕ) → b ≡ 0 → a + b ≡ a
      alone a b e = omega arith
  copies_new (two_below p a b) j none one =
      omega (arith, copies_new a j (omega arith) one, copies_new b j (omega arith) one)

-- a leaf is a node of the list
copies_past : (nodes : List SearchNode) (tree : NodeTree) (node j : ℕ) → IsTreeAt nodes node tree → length nodes ≤ j → copies j tree ≡ 0
copies_past nodes (one_node number) node j t past =
    let at : node < length nodes = slice_get_within nodes node t.1.it t.1.is_there in
    let away : number ≢ j = λ e. absurd (omega (arith, t.0)) in
    ap (λ (b : Bool). one_if b) (ne_eqb number j away)
copies_past nodes (two_below p a b) node j t past =
    omega (arith, copies_past nodes a t.0 j t.2 past, copies_past nodes b (t.0 + 1) j t.3 past)

-- ---- an open node is split, and two children come

module _ (nodes : List SearchNode) (i : ℕ) (m : SearchNode) (there : slice_get nodes i ≡ Some m) (was_open : is_split m.standing ≡ false) (bound : ℤ) (pair : Pair) where
  abbrev mid : List SearchNode
  mid = changed nodes i bound (Split (length nodes))

  abbrev new : List SearchNode
  new = mid ++ child i pair bound ∷ child i (reversed pair) bound ∷ []

  at : i < length nodes
  at = slice_get_within nodes i m there

  mid_length : length mid ≡ length nodes
  mid_length = length-set nodes i _

  new_length : length new ≡ length nodes + 2
  new_length = length-append mid (child i pair bound ∷ child i (reversed pair) bound ∷ []) ∙ ap (λ (k : ℕ). k + 2) mid_length

  first_there : slice_get new (length nodes) ≡ Some (child i pair bound)
  first_there = ap (slice_get new) (sym mid_length) ∙ slice_get_at mid (child i pair bound) (child i (reversed pair) bound ∷ [])

  second_there : slice_get new (length nodes + 1) ≡ Some (child i (reversed pair) bound)
  second_there = ap (λ (k : ℕ). slice_get new (k + 1)) (sym mid_length) ∙ slice_get_two_second mid (child i pair bound) (child i (reversed pair) bound)

  from_mid : (j : ℕ) (x : SearchNode) → slice_get mid j ≡ Some x → slice_get new j ≡ Some x
  from_mid j x e = slice_get-append_left mid _ j (slice_get_within mid j x e) ∙ e

  mid_changed : IsChanged nodes mid i
  mid_changed = is_changed nodes i m there was_open bound (Split (length nodes))

  new_own : (x : SearchNode) → slice_get nodes i ≡ Some x → HasKept new i x
  new_own x e =
      let k = mid_changed.own x e in
      record { it = k.it; is_there = from_mid i k.it k.is_there; parent = k.parent; pair = k.pair }

  new_changed : IsChanged nodes new i
  new_changed = record {
    was_open = mid_changed.was_open;
    others = λ j x ne e. from_mid j x (mid_changed.others j x ne e);
    own = new_own;
  }

  me_there : slice_get new i ≡ Some (record (node_at nodes i) { bound = bound; standing = Split (length nodes) })
  me_there = from_mid i _ (changed_there nodes i m there was_open bound (Split (length nodes)))

  my_split : IsSplitInto new i (length nodes) pair
  my_split = record {
    it = record (node_at nodes i) { bound = bound; standing = Split (length nodes) };
    is_there = me_there;
    parted = refl;
    later = at;
    one = child i pair bound;
    one_there = first_there;
    one_parent = refl;
    one_pair = refl;
    two = child i (reversed pair) bound;
    two_there = second_there;
    two_parent = refl;
    two_pair = refl;
  }

  grown_leaf : (b : Bool) (node number : ℕ) → eqb number i ≡ b → number ≡ node → IsOpen nodes node → IsTreeAt new node (cond b (two_below pair (one_node (length nodes)) (one_node (length nodes + 1))) (one_node number))
  grown_leaf true node number e same o =
      let here : node ≡ i = sym same ∙ eqb-true number i e in (
        length nodes,
        subst (λ (k : ℕ). IsSplitInto new k (length nodes) pair) (sym here) my_split,
        (refl, record { it = child i pair bound; is_there = first_there; unsplit = refl }),
        (refl, record { it = child i (reversed pair) bound; is_there = second_there; unsplit = refl }),
      )
  grown_leaf false node number e same o =
      let away : node ≢ i = λ here. let f : true ≡ false = sym (eq-eqb number i (same ∙ here)) ∙ e in cc in
      (same, record { it = o.it; is_there = new_changed.others node o.it away o.is_there; unsplit = o.unsplit })

  grown_tree : (node : ℕ) (tree : NodeTree) → IsTreeAt nodes node tree → IsTreeAt new node (grown tree i pair (length nodes))
  grown_tree node (one_node number) t = grown_leaf (eqb number i) node number refl t.0 t.1
  grown_tree node (two_below p a b) t = (t.0, kept_split nodes new i new_changed node t.0 p t.1, grown_tree t.0 a t.2, grown_tree (t.0 + 1) b t.3)

  first_one : one_if (eqb (length nodes) (length nodes)) + one_if (eqb (length nodes + 1) (length nodes)) ≡ 1
  first_one = rw (eq-eqb (length nodes) (length nodes) refl, ne_eqb (length nodes + 1) (length nodes) (λ e. absurd (omega arith))) refl

  second_one : one_if (eqb (length nodes) (length nodes + 1)) + one_if (eqb (length nodes + 1) (length nodes + 1)) ≡ 1
  second_one = rw (eq-eqb (length nodes + 1) (length nodes + 1) refl, ne_eqb (length nodes) (length nodes + 1) (λ e. absurd (omega arith))) refl

  -- what is open is a child, or another node that was open
  open_cases : (j : ℕ) → IsOpen new j → ((j ≢ i) × (j < length nodes) × IsOpen nodes j) ⊎ ((j ≡ length nodes) ⊎ (j ≡ length nodes + 1))
  open_cases j o = elim (slice_get_two_cases mid (child i pair bound) (child i (reversed pair) bound) o.it j o.is_there) [
    | inl old ↦
        let inside : j < length nodes = subst (λ (k : ℕ). j < k) mid_length (slice_get_within mid j o.it old) in
        let away : j ≢ i = λ e.
        let it : o.it ≡ record (node_at nodes i) { bound = bound; standing = Split (length nodes) } = same_Some o.it _ (sym old ∙ (ap (slice_get mid) e ∙ changed_there nodes i m there was_open bound (Split (length nodes)))) in
        let f : false ≡ true = sym o.unsplit ∙ ap (λ (y : SearchNode). is_split y.standing) it in
        cc in
        inl (away, inside, record { it = o.it; is_there = sym (slice_get-set_other nodes i j _ away) ∙ old; unsplit = o.unsplit })
    | inr new ↦ elim new [ inl a ↦ inr (inl (a.0 ∙ mid_length)) | inr a ↦ inr (inr (a.0 ∙ ap (λ (k : ℕ). k + 1) mid_length)) ]
  ]

  module _ (tree : NodeTree) (r : IsRooted nodes tree) where
    mine : copies i tree ≡ 1
    mine = r.once i (record { it = m; is_there = there; unsplit = was_open })

    grown_once : (j : ℕ) → IsOpen new j → copies j (grown tree i pair (length nodes)) ≡ 1
    grown_once j o = elim (open_cases j o) [
      | inl old ↦ copies_other i (length nodes) pair tree j old.0 (λ e. absurd (omega (arith, old.1))) (λ e. absurd (omega (arith, old.1))) ∙ r.once j old.2
      | inr new ↦ elim new [
        | inl e ↦ subst (λ (k : ℕ). copies k (grown tree i pair (length nodes)) ≡ 1) (sym e)
            (copies_new i (length nodes) pair tree (length nodes) (copies_past nodes tree 0 (length nodes) r.is_tree (omega arith)) first_one ∙ mine)
        | inr e ↦ subst (λ (k : ℕ). copies k (grown tree i pair (length nodes)) ≡ 1) (sym e)
            (copies_new i (length nodes) pair tree (length nodes + 1) (copies_past nodes tree 0 (length nodes + 1) r.is_tree (omega arith)) second_one ∙ mine)
      ]
    ]

    grown_rooted : IsRooted new (grown tree i pair (length nodes))
    grown_rooted = record {
      is_tree = grown_tree 0 tree r.is_tree;
      complete = omega (arith, count_grown tree i (length nodes) pair, mine, r.complete, new_length);
      once = grown_once;
    }

-- ---- every event

root_copies : (j : ℕ) (r : SearchNode) → IsOpen (r ∷ []) j → copies j (one_node 0) ≡ 1
root_copies j r o =
    let inside : j < 1 = slice_get_within (r ∷ []) j o.it o.is_there in
    ap (λ (b : Bool). one_if b) (eq-eqb 0 j (omega arith))

root_rooted : (r : SearchNode) → is_split r.standing ≡ false → IsRooted (r ∷ []) (one_node 0)
root_rooted r is_open = record {
  is_tree = (refl, record { it = r; is_there = refl; unsplit = is_open });
  complete = refl;
  once = λ j o. root_copies j r o;
}

settled_rooted : (s : SearchState) (i : ℕ) (m : SearchNode) → HasTree s.nodes → slice_get s.nodes i ≡ Some m → is_split m.standing ≡ false → (bound best : ℤ) (pair : Option Pair) → HasTree (settled s i bound best pair).nodes
settled_rooted s i m h there was bound best None = (h.0, kept_rooted s.nodes i m there was bound Idle refl h.0 h.1)
settled_rooted s i m h there was bound best (Some p) = go (int_lt best bound) where
  go : (b : Bool) → HasTree (cond b (divided s i bound best p) (closed s i bound best)).nodes
  go true = (grown h.0 i p (length s.nodes), grown_rooted s.nodes i m there was bound p h.0 h.1)
  go false = (h.0, kept_rooted s.nodes i m there was bound Idle refl h.0 h.1)

entry_rooted : (problem : Problem) (journal : List Entry) (e : Entry) → HasTree (replay problem journal).nodes → MayFollow problem journal e → HasTree (after (replay problem journal) e).nodes
unfolding after
entry_rooted problem journal (Take w i) h may =
    let s : SearchState = replay problem journal in
    (h.0, kept_rooted (replay problem journal).nodes i may.ready.it may.ready.is_there (ap is_split may.ready.idle) (node_at (replay problem journal).nodes i).bound (Out w) refl h.0 h.1)
entry_rooted problem journal (Report w i bound pair value room) h may =
    settled_rooted (replay problem journal) i may.is_out.0 h may.is_out.1 (ap is_split may.is_out.2) _ _ pair

rooted_replay : (problem : Problem) (journal : List Entry) → IsLawfulJournal problem journal → HasTree (replay problem journal).nodes
rooted_replay problem journal h =
    by_following (MayFollow problem) (λ (j : List Entry). HasTree (replay problem j).nodes) (one_node 0, root_rooted (child 0 no_pair (pair_bound problem.weights [])) refl)
    (λ j e each tree may. subst (λ (s : SearchState). HasTree s.nodes) (sym (replay_push problem j e)) (entry_rooted problem j e tree may))
    journal h.each

-- the nodes of a core are one tree, which has each of them once
pub whole_tree : (core : CoreFields) → HasHistory core → WholeTree core.state.nodes
whole_tree core h =
    let r = subst (λ (s : SearchState). HasTree s.nodes) (sym h.replayed) (rooted_replay core.problem core.journal h.lawful) in
    record { tree = r.0; is_tree = r.1.is_tree; complete = r.1.complete }
