-- What the candidates keep as they are dropped, taken and put in.
use Rattle.std.proofs.Common.{◌≡◌, ◌≢◌, ℕ, ◌<◌, List, [], ◌∷◌, length, map, eqb, inl, inr, ◌⊎◌, arith, sym, ◌∙◌, refl, ap, subst, suc, zero, Bool, true, false, Contains, IsPermutation, get_or}
use Rattle.std.specs.Prelude.{ℤ, pos, ◌<ℤ◌, ◌≤ℤ◌, int_lt, ◌&&◌, AllPairs}
use Rattle.std.specs.declared.cmp.Ordering.{Ordering}
use Rattle.std.specs.declared.cmp.Ordering.TheVariants.{Less, Equal, Greater}
use Rattle.std.specs.Ordering.{is_lt, MatchOrdering, int_cmp, nat_cmp, ordering_then}
use Rattle.std.specs.Cmp.{int_ranks, ranks}
use Rattle.std.specs.BinaryHeap.{IsHeap, IsUpperBound, lt_by_cmp}
use Rattle.std.proofs.lemmas.Int.{ints}
use Rattle.std.proofs.lemmas.Bool.Decides.{nat_tests, Decides-eqb}
use Rattle.std.proofs.lemmas.Option.{get_or_from_slice_get, slice_get_within, slice_get-get_or, same_Some, none-some}
use Rattle.std.proofs.lemmas.List.{get_or-map, length-map}
use Rattle.std.proofs.lemmas.List.Sorted.{All-permutation, Contains-permutation, IsPermutation-map}
use Rattle.std.proofs.lemmas.List.Elements.{All-nil, All-cons, All-from_recursion, All-contains, Contains-append_cases}
use Rattle.std.proofs.lemmas.Map.Keys.{IsDistinct-IsPermutation}
use Rattle.std.proofs.lemmas.Map.Made.{AllPairs-from_IsDistinct, IsDistinct-from_AllPairs}
use Rattle.lop_core.specs.declared.node.SearchNode.{SearchNode}
use Rattle.lop_core.specs.declared.candidates.Candidate.{Candidate}
use Rattle.lop_core.specs.declared.node.Standing.{Standing}
use Rattle.lop_core.specs.declared.node.Standing.TheVariants.{Idle, Out, Split}
use Rattle.lop_core.specs.Tree.{child, no_pair, node_at, is_idle}
use Rattle.lop_core.specs.Machine.{IsReady, IsFirstReady}
use Rattle.lop_core.specs.Candidates.{AreCandidates, candidate, candidate_order}

-- ---- the order

-- what isn't less, by bounds x and y and by numbers i and j
not_less : (x y : ℤ) (i j : ℕ) (o p : Ordering) → MatchOrdering o (x <ℤ y) (x ≡ y) (y <ℤ x) → MatchOrdering p (j < i) (j ≡ i) (i < j) → is_lt (ordering_then o p) ≡ false
    → (y ≤ℤ x) × (j < i → y <ℤ x)
not_less x y i j Less p h k e = absurd cc
not_less x y i j Equal Less h k e = absurd cc
not_less x y i j Equal Equal h k e = (omega (arith, ints), λ lt. absurd (omega arith))
not_less x y i j Equal Greater h k e = (omega (arith, ints), λ lt. absurd (omega arith))
not_less x y i j Greater p h k e = (omega (arith, ints), λ lt. h)

-- a candidate that isn't less has no lower bound, and of equal bounds no greater number
over : (a b : Candidate) → lt_by_cmp candidate_order a b ≡ false → (b.bound ≤ℤ a.bound) × (b.node.0 < a.node.0 → b.bound <ℤ a.bound)
over a b e = not_less a.bound b.bound a.node.0 b.node.0 (int_cmp a.bound b.bound) (nat_cmp b.node.0 a.node.0) (int_ranks a.bound b.bound) (ranks b.node.0 a.node.0) e

-- ---- the top

-- an element of a list with one more at its front
pub one_of : (cs : List Candidate) (a b : Candidate) → Contains (a ∷ cs) b → (a ≡ b) ⊎ Contains cs b
one_of cs a b h = elim (Contains-append_cases (a ∷ []) cs b h) [
  | inl (zero, lt, e) ↦ inl e
  | inl (suc k, lt, e) ↦ absurd (omega arith)
  | inr more ↦ inr more
]

-- the node of the top is the first of the best
pub top_first : (nodes : List SearchNode) (best : ℤ) (cs : List Candidate) (top : Candidate) → AreCandidates nodes best cs → top ≡ get_or cs 0 top → 0 < length cs → IsUpperBound candidate_order top cs → IsFirstReady nodes best top.node.0
top_first nodes best cs top h e some greatest =
    let bound : top.bound ≡ (node_at nodes top.node.0).bound = subst (λ (c : Candidate). c.bound ≡ (node_at nodes c.node.0).bound) (sym e) (h.own 0 top some) in
    let least : (other : ℕ) → IsReady nodes best other → ((node_at nodes other).bound ≤ℤ top.bound) × (other < top.node.0 → (node_at nodes other).bound <ℤ top.bound) =
    λ other o. over top (candidate (node_at nodes other).bound other)
    (All-contains (λ (c : Candidate). lt_by_cmp candidate_order top c ≡ false) cs (candidate (node_at nodes other).bound other) (All-from_recursion (λ (c : Candidate). lt_by_cmp candidate_order top c ≡ false) cs greatest) (h.every other o)) in
    record {
      ready = subst (λ (c : Candidate). IsReady nodes best c.node.0) (sym e) (h.ready 0 top some);
      greatest = λ other o. let low = (least other o).0 in omega (arith, ints, low, bound);
      first = λ other o less. let low = (least other o).1 less in omega (arith, ints, low, bound);
    }

-- where there is no candidate, no node is ready
pub none_ready : (nodes : List SearchNode) (best : ℤ) (cs : List Candidate) → AreCandidates nodes best cs → length cs ≡ 0 → (node : ℕ) → IsReady nodes best node → ⊥
none_ready nodes best cs h e node ready = let at = h.every node ready in absurd (omega (arith, at.1))

-- ---- no node twice

abbrev pub Differ : List Candidate → Type 0
Differ cs = AllPairs (λ c d. c.node.0 ≢ d.node.0) cs

-- no node twice, whatever the order
pub different_permuted : (xs ys : List Candidate) → IsPermutation xs ys → Differ xs → Differ ys
different_permuted xs ys p different i j d lt within =
    let f : Candidate → ℕ = λ c. c.node.0 in
    let lx : length (map (λ (c : Candidate). c.node.0) xs) ≡ length xs = length-map xs (λ (c : Candidate). c.node.0) in
    let ly : length (map (λ (c : Candidate). c.node.0) ys) ≡ length ys = length-map ys (λ (c : Candidate). c.node.0) in
    let before : AllPairs (λ a b. a ≢ b) (map (λ (c : Candidate). c.node.0) xs) = λ a b k ab bl.
    let e : Candidate = candidate (pos 0) k in
    let at_a : get_or (map (λ (c : Candidate). c.node.0) xs) a k ≡ (get_or xs a (candidate (pos 0) k)).node.0 = get_or-map (λ (c : Candidate). c.node.0) xs a (candidate (pos 0) k) k (omega arith) in
    let at_b : get_or (map (λ (c : Candidate). c.node.0) xs) b k ≡ (get_or xs b (candidate (pos 0) k)).node.0 = get_or-map (λ (c : Candidate). c.node.0) xs b (candidate (pos 0) k) k (omega arith) in
    rw (at_a, at_b) (different a b (candidate (pos 0) k) ab (omega arith)) in
    let after : AllPairs (λ a b. a ≢ b) (map (λ (c : Candidate). c.node.0) ys) =
    AllPairs-from_IsDistinct Decides-eqb (map (λ (c : Candidate). c.node.0) ys)
    (IsDistinct-IsPermutation eqb (λ x y. eqb_flip x y) (map (λ (c : Candidate). c.node.0) xs) (map (λ (c : Candidate). c.node.0) ys) (IsPermutation-map (λ (c : Candidate). c.node.0) xs ys p)
    (IsDistinct-from_AllPairs Decides-eqb (map (λ (c : Candidate). c.node.0) xs) before)) in
    let at_i : get_or (map (λ (c : Candidate). c.node.0) ys) i d.node.0 ≡ (get_or ys i d).node.0 = get_or-map (λ (c : Candidate). c.node.0) ys i d d.node.0 (omega arith) in
    let at_j : get_or (map (λ (c : Candidate). c.node.0) ys) j d.node.0 ≡ (get_or ys j d).node.0 = get_or-map (λ (c : Candidate). c.node.0) ys j d d.node.0 within in
    rw (at_i, at_j) at (after i j d.node.0 lt (omega arith))
  where
    eqb_flip : (x y : ℕ) → eqb x y ≡ eqb y x
    eqb_flip x y = grind (arith, nat_tests)

-- ---- the test of a node

-- the test's two parts
pub both : (a b : Bool) → (a && b) ≡ true → (a ≡ true) × (b ≡ true)
both true b e = (refl, e)
both false b e = absurd cc

-- a standing that passes the test
idle_by : (standing : Standing) → is_idle standing ≡ true → standing ≡ Idle
idle_by Idle e = refl
idle_by (Out worker) e = absurd cc
idle_by (Split first) e = absurd cc

-- a node that passes the test is ready, and a ready node passes it
pub ready_by : (nodes : List SearchNode) (best : ℤ) (i : ℕ) → i < length nodes → (is_idle (node_at nodes i).standing && int_lt best (node_at nodes i).bound) ≡ true → IsReady nodes best i
ready_by nodes best i lt t =
    let parts = both (is_idle (node_at nodes i).standing) (int_lt best (node_at nodes i).bound) t in
    record { it = node_at nodes i; is_there = slice_get-get_or nodes i _ lt; idle = idle_by (node_at nodes i).standing parts.0; above = let h = parts.1 in grind (arith, ints) }

pub passes_by : (nodes : List SearchNode) (best : ℤ) (i : ℕ) → IsReady nodes best i → (is_idle (node_at nodes i).standing && int_lt best (node_at nodes i).bound) ≡ true
passes_by nodes best i ready =
    let it : node_at nodes i ≡ ready.it = get_or_from_slice_get nodes i ready.it _ ready.is_there in
    let idle : (node_at nodes i).standing ≡ Idle = ap (λ (x : SearchNode). x.standing) it ∙ ready.idle in
    let above : best <ℤ (node_at nodes i).bound = subst (λ (x : SearchNode). best <ℤ x.bound) (sym it) ready.above in
    let test : int_lt best (node_at nodes i).bound ≡ true = grind (arith, ints) in
    rw (idle, test) refl

-- ---- what the code begins with, and what it saw

-- the root alone, where it is live
pub root_candidates : (bound best : ℤ) (cs : List Candidate) → (best <ℤ bound → IsPermutation (candidate bound 0 ∷ []) cs) → (bound ≤ℤ best → cs ≡ []) → IsHeap candidate_order cs → AreCandidates (child 0 no_pair bound ∷ []) best cs
root_candidates bound best cs live dead heap = go (int_lt best bound) refl where
  root_there : (j : ℕ) → j < 1 → Contains (candidate bound 0 ∷ []) (candidate (node_at (child 0 no_pair bound ∷ []) j).bound j)
  root_there zero lt = (0, omega arith, refl)
  root_there (suc j) lt = absurd (omega arith)

  never : bound ≤ℤ best → (j : ℕ) → ¬ (IsReady (child 0 no_pair bound ∷ []) best j)
  never low zero ready = let same : child 0 no_pair bound ≡ ready.it = same_Some (child 0 no_pair bound) ready.it ready.is_there in let up : best <ℤ bound = subst (λ (x : SearchNode). best <ℤ x.bound) (sym same) ready.above in absurd (omega (arith, ints))
  never low (suc j) ready = absurd (none-some ready.it ready.is_there)

  go : (b : Bool) → int_lt best bound ≡ b → AreCandidates (child 0 no_pair bound ∷ []) best cs
  go true t =
      let up : best <ℤ bound = grind (arith, ints) in
      let p = live up in
      let ready : IsReady (child 0 no_pair bound ∷ []) best 0 = record { it = child 0 no_pair bound; is_there = refl; idle = refl; above = up } in
      record {
        ordered = heap;
        every = λ j r. Contains-permutation (candidate bound 0 ∷ []) cs _ p (root_there j (slice_get_within (child 0 no_pair bound ∷ []) j r.it r.is_there));
        ready = All-permutation (λ (c : Candidate). IsReady (child 0 no_pair bound ∷ []) best c.node.0) (candidate bound 0 ∷ []) cs p
            (All-cons (λ (c : Candidate). IsReady (child 0 no_pair bound ∷ []) best c.node.0) (candidate bound 0) [] ready (All-nil (λ (c : Candidate). IsReady (child 0 no_pair bound ∷ []) best c.node.0)));
        own = All-permutation (λ (c : Candidate). c.bound ≡ (node_at (child 0 no_pair bound ∷ []) c.node.0).bound) (candidate bound 0 ∷ []) cs p
            (All-cons (λ (c : Candidate). c.bound ≡ (node_at (child 0 no_pair bound ∷ []) c.node.0).bound) (candidate bound 0) [] refl (All-nil (λ (c : Candidate). c.bound ≡ (node_at (child 0 no_pair bound ∷ []) c.node.0).bound)));
        different = different_permuted (candidate bound 0 ∷ []) cs p (λ i j d lt within. absurd (omega arith));
      }
  go false f =
      let low : bound ≤ℤ best = grind (arith, ints) in
      subst (AreCandidates (child 0 no_pair bound ∷ []) best) (sym (dead low)) (record {
        ordered = subst (IsHeap candidate_order) (dead low) heap;
        every = λ j r. absurd (never low j r);
        ready = λ k d lt. absurd (omega arith);
        own = λ k d lt. absurd (omega arith);
        different = λ i j d lt within. absurd (omega arith);
      })

-- the candidates of a state, by what the code saw of it
pub candidates_in : (nodes seen : List SearchNode) (best best' : ℤ) (cs : List Candidate) → seen ≡ nodes → best' ≡ best → AreCandidates seen best' cs → AreCandidates nodes best cs
candidates_in nodes seen best best' cs en eb h = rw (en, eb) at h
