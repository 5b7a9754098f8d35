-- Each node but the root comes after its parent, and its path goes on from its parent's.
use Rattle.std.proofs.Common.{◌≡◌, ℕ, ◌<◌, List, [], ◌∷◌, ◌++◌, length, get_or, inl, inr, arith, sym, ◌∙◌, Some, None, Option, refl, ap, subst, suc, zero, Bool, true, false, length-set, length-append, reverse, append_assoc}
use Rattle.std.specs.Prelude.{slice_get, ℤ, int_lt, if◌then◌else◌, fold}
use Rattle.std.proofs.lemmas.List.{reverse-append, length-reverse, get_or_append_left, length_push}
use Rattle.std.proofs.lemmas.Option.{slice_get-get_or, slice_get_within, get_or_from_slice_get, none-some}
use Rattle.lop_model.specs.declared.pair.Pair.{Pair}
use Rattle.lop_core.proofs.Lists.{slice_get-set_cases, slice_get_two_cases, by_following}
use Rattle.lop_core.specs.declared.node.SearchNode.{SearchNode}
use Rattle.lop_core.specs.declared.node.Standing.{Standing}
use Rattle.lop_core.specs.declared.node.Standing.TheVariants.{Idle, Out, Split}
use Rattle.lop_core.specs.declared.journal.Entry.{Entry}
use Rattle.lop_core.specs.declared.journal.Entry.TheVariants.{Take, Report}
use Rattle.lop_core.specs.Tree.{no_pair, child, node_at, path_of, paths, with_path_of, AreLinked}
use Rattle.lop_model.specs.Reversed.{reversed}
use Rattle.lop_core.specs.Machine.{Problem, SearchState, after, settled, divided, closed, changed}
use Rattle.lop_core.specs.Journal.{replay, MayFollow, IsLawfulJournal}
use Rattle.lop_core.specs.Core.{CoreFields, HasHistory}
use Rattle.lop_model.specs.Bound.{pair_bound}
use Rattle.lop_core.proofs.TreeLemmas.{paths-changed, path_of_two_old, path_of_two_first, path_of_two_second}
use Rattle.lop_core.proofs.Replay.{replay_push}

module _ (nodes : List SearchNode) (linked : AreLinked nodes) (n : ℕ) (m : SearchNode) (there : slice_get nodes n ≡ Some m) (bound : ℤ) where
  same_path : (standing : Standing) (j : ℕ) → path_of (changed nodes n bound standing) j ≡ path_of nodes j
  same_path standing j = ap (λ (ps : List (List Pair)). get_or ps j []) (paths-changed nodes n bound standing (slice_get_within nodes n m there))

  -- what stands in the changed list has the parent and the pair of what stood there
  before : (standing : Standing) (i : ℕ) (x : SearchNode) → slice_get (changed nodes n bound standing) i ≡ Some x
      → (y : SearchNode) × (slice_get nodes i ≡ Some y) × (x.parent ≡ y.parent) × (x.pair ≡ y.pair)
  before standing i x e = elim (slice_get-set_cases nodes n i _ x (slice_get_within nodes n m there) e) [
    | inl old ↦ (x, old.1, refl, refl)
    | inr new ↦
        let it : node_at nodes n ≡ m = get_or_from_slice_get nodes n m _ there in
        (m, ap (slice_get nodes) new.0 ∙ there, sym (ap (λ (z : SearchNode). z.parent) new.1) ∙ ap (λ (z : SearchNode). z.parent) it, sym (ap (λ (z : SearchNode). z.pair) new.1) ∙ ap (λ (z : SearchNode). z.pair) it)
  ]

  linked_changed : (standing : Standing) → AreLinked (changed nodes n bound standing)
  linked_changed standing i x e up =
      let y = before standing i x e in
      let l = linked i y.0 y.1 up in (
        subst (λ (p : ℕ). p < i) (sym y.2) l.0,
        same_path standing i ∙ (l.1
            ∙ (ap (λ (p : Pair). path_of nodes y.0.parent ++ p ∷ []) (sym y.3)
            ∙ (ap (λ (k : ℕ). path_of nodes k ++ x.pair ∷ []) (sym y.2) ∙ ap (λ (p : List Pair). p ++ x.pair ∷ []) (sym (same_path standing x.parent))))),
      )

-- two children of the node n
linked_two : (nodes : List SearchNode) → AreLinked nodes → (n : ℕ) → n < length nodes → (a b : SearchNode) → a.parent ≡ n → b.parent ≡ n → AreLinked (nodes ++ a ∷ b ∷ [])
linked_two nodes linked n lt a b ea eb i x e up =
    let rooted : 0 < length nodes = omega arith in
    elim (slice_get_two_cases nodes a b x i e) [
      | inl old ↦
          let l = linked i x old up in
          let within : i < length nodes = slice_get_within nodes i x old in
          let low : x.parent < length nodes = omega (arith, l.0) in
          (l.0, path_of_two_old nodes a b rooted i within ∙ (l.1 ∙ ap (λ (p : List Pair). p ++ x.pair ∷ []) (sym (path_of_two_old nodes a b rooted x.parent low))))
      | inr new ↦ elim new [
        | inl at ↦
            let pa : x.parent ≡ n = sym (ap (λ (z : SearchNode). z.parent) at.1) ∙ ea in
            let low : x.parent < length nodes = omega arith in (
              omega (arith, at.0),
              ap (path_of (nodes ++ a ∷ b ∷ [])) at.0 ∙ (path_of_two_first nodes a b rooted
                  ∙ (ap (λ (z : SearchNode). path_of nodes z.parent ++ z.pair ∷ []) at.1 ∙ ap (λ (p : List Pair). p ++ x.pair ∷ []) (sym (path_of_two_old nodes a b rooted x.parent low)))),
            )
        | inr at ↦
            let pa : x.parent ≡ n = sym (ap (λ (z : SearchNode). z.parent) at.1) ∙ eb in
            let low : x.parent < length nodes = omega arith in
            let lowb : b.parent < length nodes = omega arith in (
              omega (arith, at.0),
              ap (path_of (nodes ++ a ∷ b ∷ [])) at.0 ∙ (path_of_two_second nodes a b rooted lowb
                  ∙ (ap (λ (z : SearchNode). path_of nodes z.parent ++ z.pair ∷ []) at.1 ∙ ap (λ (p : List Pair). p ++ x.pair ∷ []) (sym (path_of_two_old nodes a b rooted x.parent low)))),
            )
      ]
    ]

linked_settled : (s : SearchState) (n : ℕ) (m : SearchNode) → AreLinked s.nodes → slice_get s.nodes n ≡ Some m → (kept best : ℤ) (pair : Option Pair) → AreLinked (settled s n kept best pair).nodes
linked_settled s n m linked there kept best None = linked_changed s.nodes linked n m there kept Idle
linked_settled s n m linked there kept best (Some p) = go (int_lt best kept) where
  go : (b : Bool) → AreLinked (if b then divided s n kept best p else closed s n kept best).nodes
  go true = linked_two (changed s.nodes n kept (Split (length s.nodes))) (linked_changed s.nodes linked n m there kept (Split (length s.nodes))) n
      (rw length-set (slice_get_within s.nodes n m there)) (child n p kept) (child n (reversed p) kept) refl refl
  go false = linked_changed s.nodes linked n m there kept Idle

linked_entry : (problem : Problem) (journal : List Entry) (e : Entry) → AreLinked (replay problem journal).nodes → MayFollow problem journal e → AreLinked (after (replay problem journal) e).nodes
unfolding after
linked_entry problem journal (Take w n) linked may = linked_changed (replay problem journal).nodes linked n may.ready.it may.ready.is_there _ (Out w)
linked_entry problem journal (Report w n bound pair value room) linked may = linked_settled (replay problem journal) n may.is_out.0 linked may.is_out.1 _ _ pair

root_linked : (r : SearchNode) → AreLinked (r ∷ [])
root_linked r zero m e up = absurd (omega arith)
root_linked r (suc i) m e up = absurd (none-some m e)

-- each node's path goes on from its parent's
pub linked_replay : (problem : Problem) (journal : List Entry) → IsLawfulJournal problem journal → AreLinked (replay problem journal).nodes
linked_replay problem journal h =
    by_following (MayFollow problem) (λ (j : List Entry). AreLinked (replay problem j).nodes) (root_linked (child 0 no_pair (pair_bound problem.weights [])))
    (λ j e each linked may. subst (λ (s : SearchState). AreLinked s.nodes) (sym (replay_push problem j e)) (linked_entry problem j e linked may))
    journal h.each

fold_root : (known : List (List Pair)) (nodes : List SearchNode) → 0 < length known → get_or (fold with_path_of known nodes) 0 [] ≡ get_or known 0 []
fold_root known [] h = refl
fold_root known (x ∷ nodes) h =
    let l : 0 < length (with_path_of known x) = rw length_push (omega arith) in
    fold_root (with_path_of known x) nodes l ∙ get_or_append_left known _ [] 0 h

-- the root's path is empty
pub path_of_root : (nodes : List SearchNode) → path_of nodes 0 ≡ []
unfolding paths
path_of_root [] = refl
path_of_root (x ∷ nodes) = fold_root ([] ∷ []) nodes (omega arith)

-- one step up, with the pairs so far in reverse
pub climbed : (nodes : List SearchNode) (node at : ℕ) (ps : List Pair) → AreLinked nodes → at < length nodes → 0 < at → path_of nodes node ≡ path_of nodes at ++ reverse ps
    → ((node_at nodes at).parent < at) × (path_of nodes node ≡ path_of nodes (node_at nodes at).parent ++ reverse (ps ++ (node_at nodes at).pair ∷ [])) × (length ps < length (path_of nodes node))
climbed nodes node at ps linked lt up e =
    let l = linked at (node_at nodes at) (slice_get-get_or nodes at _ lt) up in
    let r : reverse (ps ++ (node_at nodes at).pair ∷ []) ≡ (node_at nodes at).pair ∷ reverse ps = reverse-append ps ((node_at nodes at).pair ∷ []) in
    let long : path_of nodes node ≡ path_of nodes (node_at nodes at).parent ++ ((node_at nodes at).pair ∷ reverse ps) =
    e ∙ (ap (λ (p : List Pair). p ++ reverse ps) l.1 ∙ append_assoc (path_of nodes (node_at nodes at).parent) ((node_at nodes at).pair ∷ []) (reverse ps)) in (
      l.0,
      long ∙ ap (λ (p : List Pair). path_of nodes (node_at nodes at).parent ++ p) (sym r),
      omega (arith, ap length long, length-append (path_of nodes (node_at nodes at).parent) ((node_at nodes at).pair ∷ reverse ps), length-reverse ps),
    )

pub climbed_up : (nodes : List SearchNode) (node : ℕ) (ps qs : List Pair) (at : ℕ) → at ≡ 0 → path_of nodes node ≡ path_of nodes at ++ reverse ps → qs ≡ reverse ps → qs ≡ path_of nodes node
climbed_up nodes node ps qs at z e r =
    r ∙ sym (e ∙ ap (λ (p : List Pair). p ++ reverse ps) (ap (path_of nodes) z ∙ path_of_root nodes))

pub core_linked : (view : CoreFields) → HasHistory view → AreLinked view.state.nodes
core_linked view h = subst (λ (s : SearchState). AreLinked s.nodes) (sym h.replayed) (linked_replay view.problem view.journal h.lawful)
