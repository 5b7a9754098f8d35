-- What is true of the tree of every state, and that each event keeps it.
use Rattle.std.proofs.Common.{◌≡◌, ◌≢◌, ℕ, ◌+◌, ◌*◌, ◌<◌, List, [], ◌∷◌, ◌++◌, get_or, length, ◌⊎◌, inl, inr, arith, sym, ◌∙◌, Some, refl, ap, subst, Bool, true, false, cond, length-append, length-set}
use Rattle.std.specs.Prelude.{slice_get, ℤ, pos, ◌≤ℤ◌, count_by}
use Rattle.std.proofs.lemmas.Option.{slice_get_within, get_or_from_slice_get}
use Rattle.std.proofs.lemmas.Bool.{cases_eq, cases_lt}
use Rattle.std.proofs.lemmas.List.Sums.{sum_by-set, sum_by-append}
use Rattle.lop_model.specs.declared.pair.Pair.{Pair}
use Rattle.lop_model.specs.Order.{IsOrder}
use Rattle.lop_model.specs.Matrix.{weight}
use Rattle.lop_model.specs.Fixings.{IsLinearExtension, IsUndecided, IsBranchingPath}
use Rattle.lop_core.proofs.Lists.{slice_get-set_same, slice_get-set_other, slice_get-append_left, slice_get-set_cases, slice_get_two_cases, slice_get_two_second, slice_get_at}
use Rattle.lop_core.proofs.ExtensionLemmas.{one_way, not_both, extends_more, extends_less, extends_last, reversed_undecided, IsBranchingPath-push}
use Rattle.lop_core.specs.declared.node.SearchNode.{SearchNode}
use Rattle.lop_core.specs.declared.node.Standing.{Standing}
use Rattle.lop_core.specs.declared.node.Standing.TheVariants.{Split}
use Rattle.lop_core.specs.Tree.{no_pair, child, node_at, path_of, is_split, IsOpen, IsCoveredOnce, split_count}
use Rattle.lop_model.specs.Reversed.{reversed}
use Rattle.lop_core.specs.Machine.{Problem, changed}
use Rattle.lop_core.specs.Journal.{IsPathBound}
use Rattle.lop_model.specs.Attained.{IsAttained}
use Rattle.lop_core.proofs.TreeLemmas.{paths-changed, path_of_two_old, path_of_two_first, path_of_two_second}

pub record IsSound (problem : Problem) (nodes : List SearchNode) (best : ℤ) : Type 0 where
  pub rooted : 0 < length nodes
  pub bounds : (i : ℕ) (m : SearchNode) → slice_get nodes i ≡ Some m → IsPathBound problem.weights (path_of nodes i) m.bound
  pub lawful : (i : ℕ) → i < length nodes → IsBranchingPath problem.weights.size (path_of nodes i)
  pub attained : IsAttained problem.weights best
  pub cover : (s : List ℕ) → IsOrder problem.weights.size s → IsCoveredOnce nodes s
  pub size : length nodes ≡ 1 + 2 * split_count nodes

abbrev pub one_if : Bool → ℕ
one_if b = cond b 1 0

-- how many nodes have a standing of a kind, after a change of one of them
pub count_changed : (p : Standing → Bool) (nodes : List SearchNode) (i : ℕ) (m : SearchNode) (bound : ℤ) (standing : Standing) → slice_get nodes i ≡ Some m
    → count_by (λ (x : SearchNode). p x.standing) (changed nodes i bound standing) + one_if (p m.standing) ≡ count_by (λ (x : SearchNode). p x.standing) nodes + one_if (p standing)
count_changed p nodes i m bound standing there =
    let at : i < length nodes = slice_get_within nodes i m there in
    let it_is : node_at nodes i ≡ m = get_or_from_slice_get nodes i m _ there in
    let e : one_if (p (node_at nodes i).standing) ≡ one_if (p m.standing) = ap (λ (x : SearchNode). one_if (p x.standing)) it_is in
    omega (arith, e, sum_by-set (λ (x : SearchNode). cond (p x.standing) 1 0) nodes i (record (node_at nodes i) { bound = bound; standing = standing }) (child 0 no_pair (pos 0)) at)

-- The node i, which is open, gets another bound and standing, and stays open.
module _ (problem : Problem) (nodes : List SearchNode) (best : ℤ) (sound : IsSound problem nodes best)
    (i : ℕ) (m : SearchNode) (there : slice_get nodes i ≡ Some m) (was_open : is_split m.standing ≡ false)
    (bound : ℤ) (holds : IsPathBound problem.weights (path_of nodes i) bound) where
  at : i < length nodes
  at = slice_get_within nodes i m there

  it_is : node_at nodes i ≡ m
  it_is = get_or_from_slice_get nodes i m _ there

  module _ (standing : Standing) where
    same_path : (j : ℕ) → path_of (changed nodes i bound standing) j ≡ path_of nodes j
    same_path j = ap (λ (ps : List (List Pair)). get_or ps j []) (paths-changed nodes i bound standing at)

    changed_cases : (j : ℕ) (x : SearchNode) → slice_get (changed nodes i bound standing) j ≡ Some x → ((j ≢ i) × (slice_get nodes j ≡ Some x)) ⊎ ((j ≡ i) × (x.bound ≡ bound) × (x.standing ≡ standing))
    changed_cases j x e = elim (slice_get-set_cases nodes i j _ x at e) [
      | inl old ↦ inl old
      | inr new ↦ inr (new.0, sym (ap (λ (y : SearchNode). y.bound) new.1), sym (ap (λ (y : SearchNode). y.standing) new.1))
    ]

    changed_bounds : (j : ℕ) (x : SearchNode) → slice_get (changed nodes i bound standing) j ≡ Some x → IsPathBound problem.weights (path_of (changed nodes i bound standing) j) x.bound
    changed_bounds j x e = elim (changed_cases j x e) [
      | inl old ↦ subst (λ (p : List Pair). IsPathBound problem.weights p x.bound) (sym (same_path j)) (sound.bounds j x old.1)
      | inr new ↦
          let p : path_of (changed nodes i bound standing) j ≡ path_of nodes i = same_path j ∙ ap (path_of nodes) new.0 in
          subst (λ (p : List Pair). IsPathBound problem.weights p x.bound) (sym p)
          (subst (λ (b : ℤ). IsPathBound problem.weights (path_of nodes i) b) (sym new.1) holds)
    ]

  module _ (standing : Standing) (is_open : is_split standing ≡ false) where
    still_open : (j : ℕ) → IsOpen nodes j → IsOpen (changed nodes i bound standing) j
    still_open j o = elim (cases_eq j i) [
      | inl same ↦ record {
        it = record (node_at nodes i) { bound = bound; standing = standing };
        is_there = ap (slice_get (changed nodes i bound standing)) same ∙ slice_get-set_same nodes i _ at;
        unsplit = is_open;
      }
      | inr other ↦ record { it = o.it; is_there = slice_get-set_other nodes i j _ other ∙ o.is_there; unsplit = o.unsplit }
    ]

    open_before : (j : ℕ) → IsOpen (changed nodes i bound standing) j → IsOpen nodes j
    open_before j o = elim (changed_cases standing j o.it o.is_there) [
      | inl old ↦ record { it = o.it; is_there = old.1; unsplit = o.unsplit }
      | inr new ↦ record { it = m; is_there = ap (slice_get nodes) new.0 ∙ there; unsplit = was_open }
    ]

    changed_cover : (s : List ℕ) → IsOrder problem.weights.size s → IsCoveredOnce (changed nodes i bound standing) s
    changed_cover s o =
        let c : IsCoveredOnce nodes s = sound.cover s o in
        record {
          node = c.node;
          is_open = still_open c.node c.is_open;
          extends = subst (IsLinearExtension s) (sym (same_path standing c.node)) c.extends;
          only = λ other there' e. c.only other (open_before other there') (subst (IsLinearExtension s) (same_path standing other) e);
        }

    pub sound_changed : (best' : ℤ) → IsAttained problem.weights best' → IsSound problem (changed nodes i bound standing) best'
    sound_changed best' reached = record {
      rooted = rw length-set sound.rooted;
      bounds = changed_bounds standing;
      lawful = λ j lt. subst (IsBranchingPath problem.weights.size) (sym (same_path standing j)) (sound.lawful j (rw length-set at lt));
      attained = reached;
      cover = changed_cover;
      size =
          let l : length (changed nodes i bound standing) ≡ length nodes = length-set nodes i _ in
          let old : one_if (is_split m.standing) ≡ 0 = ap one_if was_open in
          let new : one_if (is_split standing) ≡ 0 = ap one_if is_open in
          let size : length nodes ≡ 1 + 2 * split_count nodes = sound.size in
          omega (arith, count_changed is_split nodes i m bound standing there);
    }

-- the nodes after the node was split
abbrev pub divided_nodes : List SearchNode → ℕ → ℤ → Pair → List SearchNode
divided_nodes nodes i bound pair = changed nodes i bound (Split (length nodes)) ++ child i pair bound ∷ child i (reversed pair) bound ∷ []

-- The node i, which is open, is split, and two children come.
module _ (problem : Problem) (nodes : List SearchNode) (best : ℤ) (sound : IsSound problem nodes best)
    (i : ℕ) (m : SearchNode) (there : slice_get nodes i ≡ Some m) (was_open : is_split m.standing ≡ false)
    (bound : ℤ) (holds : IsPathBound problem.weights (path_of nodes i) bound)
    (pair : Pair) (undecided : IsUndecided problem.weights.size (path_of nodes i) pair.before pair.after) where
  inside : i < length nodes
  inside = slice_get_within nodes i m there

  same_length : length (changed nodes i bound (Split (length nodes))) ≡ length nodes
  same_length = length-set nodes i _

  mid_path : (j : ℕ) → path_of (changed nodes i bound (Split (length nodes))) j ≡ path_of nodes j
  mid_path j = ap (λ (ps : List (List Pair)). get_or ps j []) (paths-changed nodes i bound (Split (length nodes)) inside)

  old_path : (j : ℕ) → j < length nodes → path_of (divided_nodes nodes i bound pair) j ≡ path_of nodes j
  old_path j h = path_of_two_old (changed nodes i bound (Split (length nodes))) (child i pair bound) (child i (reversed pair) bound) (rw same_length sound.rooted) j (rw same_length h) ∙ mid_path j

  first_path : path_of (divided_nodes nodes i bound pair) (length nodes) ≡ path_of nodes i ++ pair ∷ []
  first_path =
      ap (path_of (divided_nodes nodes i bound pair)) (sym same_length)
      ∙ (path_of_two_first (changed nodes i bound (Split (length nodes))) (child i pair bound) (child i (reversed pair) bound) (rw same_length sound.rooted)
      ∙ ap (λ (p : List Pair). p ++ pair ∷ []) (mid_path i))

  second_path : path_of (divided_nodes nodes i bound pair) (length nodes + 1) ≡ path_of nodes i ++ reversed pair ∷ []
  second_path =
      ap (λ (k : ℕ). path_of (divided_nodes nodes i bound pair) (k + 1)) (sym same_length)
      ∙ (path_of_two_second (changed nodes i bound (Split (length nodes))) (child i pair bound) (child i (reversed pair) bound) (rw same_length sound.rooted) (rw same_length inside)
      ∙ ap (λ (p : List Pair). p ++ reversed pair ∷ []) (mid_path i))

  -- what stands where
  divided_cases : (j : ℕ) (x : SearchNode) → slice_get (divided_nodes nodes i bound pair) j ≡ Some x
      → ((j ≢ i) × (j < length nodes) × (slice_get nodes j ≡ Some x))
      ⊎ (((j ≡ i) × (x.bound ≡ bound) × (x.standing ≡ Split (length nodes)))
      ⊎ (((j ≡ length nodes) × (child i pair bound ≡ x)) ⊎ ((j ≡ length nodes + 1) × (child i (reversed pair) bound ≡ x))))
  divided_cases j x e = elim (slice_get_two_cases (changed nodes i bound (Split (length nodes))) _ _ x j e) [
    | inl kept ↦ elim (slice_get-set_cases nodes i j _ x inside kept) [
      | inl old ↦ inl (old.0, slice_get_within nodes j x old.1, old.1)
      | inr new ↦ inr (inl (new.0, sym (ap (λ (y : SearchNode). y.bound) new.1), sym (ap (λ (y : SearchNode). y.standing) new.1)))
    ]
    | inr new ↦ elim new [
      | inl one ↦ inr (inr (inl (one.0 ∙ same_length, one.1)))
      | inr two ↦ inr (inr (inr (two.0 ∙ ap (λ (k : ℕ). k + 1) same_length, two.1)))
    ]
  ]

  first_there : slice_get (divided_nodes nodes i bound pair) (length nodes) ≡ Some (child i pair bound)
  first_there =
      ap (slice_get (divided_nodes nodes i bound pair)) (sym same_length)
      ∙ slice_get_at (changed nodes i bound (Split (length nodes))) (child i pair bound) (child i (reversed pair) bound ∷ [])

  second_there : slice_get (divided_nodes nodes i bound pair) (length nodes + 1) ≡ Some (child i (reversed pair) bound)
  second_there =
      ap (λ (k : ℕ). slice_get (divided_nodes nodes i bound pair) (k + 1)) (sym same_length)
      ∙ slice_get_two_second (changed nodes i bound (Split (length nodes))) (child i pair bound) (child i (reversed pair) bound)

  old_there : (j : ℕ) (x : SearchNode) → j ≢ i → slice_get nodes j ≡ Some x → slice_get (divided_nodes nodes i bound pair) j ≡ Some x
  old_there j x ne e =
      let lt : j < length nodes = slice_get_within nodes j x e in
      slice_get-append_left (changed nodes i bound (Split (length nodes))) _ j (rw same_length lt) ∙ (slice_get-set_other nodes i j _ ne ∙ e)

  divided_bounds : (j : ℕ) (x : SearchNode) → slice_get (divided_nodes nodes i bound pair) j ≡ Some x → IsPathBound problem.weights (path_of (divided_nodes nodes i bound pair) j) x.bound
  divided_bounds j x e = elim (divided_cases j x e) [
    | inl old ↦ subst (λ (p : List Pair). IsPathBound problem.weights p x.bound) (sym (old_path j old.1)) (sound.bounds j x old.2)
    | inr new ↦ elim new [
      | inl at ↦
          let p : path_of (divided_nodes nodes i bound pair) j ≡ path_of nodes i = ap (path_of (divided_nodes nodes i bound pair)) at.0 ∙ old_path i inside in
          subst (λ (p : List Pair). IsPathBound problem.weights p x.bound) (sym p)
          (subst (λ (b : ℤ). IsPathBound problem.weights (path_of nodes i) b) (sym at.1) holds)
      | inr two ↦ elim two [
        | inl at ↦
            let p : path_of (divided_nodes nodes i bound pair) j ≡ path_of nodes i ++ pair ∷ [] = ap (path_of (divided_nodes nodes i bound pair)) at.0 ∙ first_path in
            λ s o ext. subst (λ (b : ℤ). weight problem.weights s ≤ℤ b) (ap (λ (y : SearchNode). y.bound) at.1) (holds s o (extends_less s (path_of nodes i) pair (subst (IsLinearExtension s) p ext)))
        | inr at ↦
            let p : path_of (divided_nodes nodes i bound pair) j ≡ path_of nodes i ++ reversed pair ∷ [] = ap (path_of (divided_nodes nodes i bound pair)) at.0 ∙ second_path in
            λ s o ext. subst (λ (b : ℤ). weight problem.weights s ≤ℤ b) (ap (λ (y : SearchNode). y.bound) at.1) (holds s o (extends_less s (path_of nodes i) (reversed pair) (subst (IsLinearExtension s) p ext)))
      ]
    ]
  ]

  divided_lawful : (j : ℕ) → j < length (divided_nodes nodes i bound pair) → IsBranchingPath problem.weights.size (path_of (divided_nodes nodes i bound pair) j)
  divided_lawful j h =
      let l : length (divided_nodes nodes i bound pair) ≡ length nodes + 2 = length-append (changed nodes i bound (Split (length nodes))) _ ∙ ap (λ (k : ℕ). k + 2) same_length in
      let base : IsBranchingPath problem.weights.size (path_of nodes i) = sound.lawful i inside in
      elim (cases_lt j (length nodes)) [
        | inl lt ↦ subst (IsBranchingPath problem.weights.size) (sym (old_path j lt)) (sound.lawful j lt)
        | inr ge ↦ elim (cases_eq j (length nodes)) [
          | inl one ↦
              let p : path_of (divided_nodes nodes i bound pair) j ≡ path_of nodes i ++ pair ∷ [] = ap (path_of (divided_nodes nodes i bound pair)) one ∙ first_path in
              subst (IsBranchingPath problem.weights.size) (sym p) (IsBranchingPath-push problem.weights.size (path_of nodes i) pair base undecided)
          | inr later ↦
              let two : j ≡ length nodes + 1 = omega arith in
              let p : path_of (divided_nodes nodes i bound pair) j ≡ path_of nodes i ++ reversed pair ∷ [] = ap (path_of (divided_nodes nodes i bound pair)) two ∙ second_path in
              subst (IsBranchingPath problem.weights.size) (sym p) (IsBranchingPath-push problem.weights.size (path_of nodes i) (reversed pair) base (reversed_undecided problem.weights.size (path_of nodes i) pair undecided))
        ]
      ]

  open_i : IsOpen nodes i
  open_i = record { it = m; is_there = there; unsplit = was_open }

  -- where an open node stands whose path the order extends
  by_place : (s : List ℕ) (j : ℕ) → IsOpen (divided_nodes nodes i bound pair) j → IsLinearExtension s (path_of (divided_nodes nodes i bound pair) j) → (P : Type 0)
      → (IsOpen nodes j → IsLinearExtension s (path_of nodes j) → j ≢ i → P)
      → (j ≡ length nodes → IsLinearExtension s (path_of nodes i ++ pair ∷ []) → P)
      → (j ≡ length nodes + 1 → IsLinearExtension s (path_of nodes i ++ reversed pair ∷ []) → P)
      → P
  by_place s j o e P old first second = elim (divided_cases j o.it o.is_there) [
    | inl kept ↦ old (record { it = o.it; is_there = kept.2; unsplit = o.unsplit }) (subst (IsLinearExtension s) (old_path j kept.1) e) kept.0
    | inr new ↦ elim new [
      | inl at ↦
          let no : true ≡ false = sym (ap is_split at.2) ∙ o.unsplit in
          cc
      | inr two ↦ elim two [
        | inl at ↦ first at.0 (subst (IsLinearExtension s) first_path (subst (λ (k : ℕ). IsLinearExtension s (path_of (divided_nodes nodes i bound pair) k)) at.0 e))
        | inr at ↦ second at.0 (subst (IsLinearExtension s) second_path (subst (λ (k : ℕ). IsLinearExtension s (path_of (divided_nodes nodes i bound pair) k)) at.0 e))
      ]
    ]
  ]

  divided_cover : (s : List ℕ) → IsOrder problem.weights.size s → IsCoveredOnce (divided_nodes nodes i bound pair) s
  divided_cover s o =
      let c : IsCoveredOnce nodes s = sound.cover s o in
      elim (cases_eq c.node i) [
        | inr away ↦ record {
          node = c.node;
          is_open = record { it = c.is_open.it; is_there = old_there c.node c.is_open.it away c.is_open.is_there; unsplit = c.is_open.unsplit };
          extends = subst (IsLinearExtension s) (sym (old_path c.node (slice_get_within nodes c.node c.is_open.it c.is_open.is_there))) c.extends;
          only = λ other o2 e. by_place s other o2 e (other ≡ c.node)
              (λ old ext ne. c.only other old ext)
              (λ at ext. absurd (away (sym (c.only i open_i (extends_less s (path_of nodes i) pair ext)))))
              (λ at ext. absurd (away (sym (c.only i open_i (extends_less s (path_of nodes i) (reversed pair) ext)))));
        }
        | inl here ↦
            let ext : IsLinearExtension s (path_of nodes i) = subst (λ (k : ℕ). IsLinearExtension s (path_of nodes k)) here c.extends in
            elim (one_way problem.weights.size s pair.before pair.after o undecided.first undecided.second undecided.differ) [
              | inl forward ↦ record {
                node = length nodes;
                is_open = record { it = child i pair bound; is_there = first_there; unsplit = refl };
                extends = subst (IsLinearExtension s) (sym first_path) (extends_more s (path_of nodes i) pair ext forward);
                only = λ other o2 e. by_place s other o2 e (other ≡ length nodes)
                    (λ old ext2 ne. absurd (ne (c.only other old ext2 ∙ here)))
                    (λ at ext2. at)
                    (λ at ext2. absurd (not_both s pair.before pair.after forward (extends_last s (path_of nodes i) (reversed pair) ext2)));
              }
              | inr backward ↦ record {
                node = length nodes + 1;
                is_open = record { it = child i (reversed pair) bound; is_there = second_there; unsplit = refl };
                extends = subst (IsLinearExtension s) (sym second_path) (extends_more s (path_of nodes i) (reversed pair) ext backward);
                only = λ other o2 e. by_place s other o2 e (other ≡ length nodes + 1)
                    (λ old ext2 ne. absurd (ne (c.only other old ext2 ∙ here)))
                    (λ at ext2. absurd (not_both s pair.before pair.after (extends_last s (path_of nodes i) pair ext2) backward))
                    (λ at ext2. at);
              }
            ]
      ]

  pub sound_divided : (best' : ℤ) → IsAttained problem.weights best' → IsSound problem (divided_nodes nodes i bound pair) best'
  sound_divided best' reached = record {
    rooted = rw (length-append, same_length) (omega (arith, sound.rooted));
    bounds = divided_bounds;
    lawful = divided_lawful;
    attained = reached;
    cover = divided_cover;
    size =
        let l : length (divided_nodes nodes i bound pair) ≡ length nodes + 2 = length-append (changed nodes i bound (Split (length nodes))) _ ∙ ap (λ (k : ℕ). k + 2) same_length in
        let old : one_if (is_split m.standing) ≡ 0 = ap one_if was_open in
        let size : length nodes ≡ 1 + 2 * split_count nodes = sound.size in
        let two : split_count (divided_nodes nodes i bound pair) ≡ split_count (changed nodes i bound (Split (length nodes))) + 0 = sum_by-append (λ (x : SearchNode). one_if (is_split x.standing)) (changed nodes i bound (Split (length nodes))) _ in
        omega (arith, count_changed is_split nodes i m bound (Split (length nodes)) there);
  }
