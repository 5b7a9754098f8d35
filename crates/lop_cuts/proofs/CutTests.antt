-- The tests of a cut decide its conditions.
use Rattle.std.proofs.Common.{◌≡◌, ℕ, ◌%◌, ◌≤◌, Bool, true, false, not, ◌&&◌, ◌||◌, eqb, nat_eq, List, [], ◌∷◌, ◌++◌, length, map, refl, sym, ◌∙◌, ap, subst, inl, inr, arith}
use Rattle.std.specs.Prelude.{All, nat_le}
use Rattle.std.specs.List.{AllByRecursion, IsDistinct, list_all, flat_map}
use Rattle.std.proofs.lemmas.Bool.{and_parts, and_from, false≢true, not-true, not_from_false, eqb-true, eq-eqb, leb-true, le-leb, or_cases, or_left, or_right}
use Rattle.std.proofs.lemmas.List.Folds.{list_any-append}
use Rattle.std.proofs.lemmas.List.Elements.{All-nil, All-cons, All-head, All-tail}
use Rattle.lop_model.specs.declared.pair.Pair.{Pair}
use Rattle.lop_model.specs.Fixings.{has_pair}
use Rattle.lop_cuts.specs.declared.kind.CutKind.{CutKind}
use Rattle.lop_cuts.specs.declared.kind.CutKind.TheVariants as kind
use Rattle.lop_cuts.specs.Arcs.{same_arc, cycle_arcs, cycles_with, IsCycle}
use Rattle.lop_cuts.specs.Kind.{IsCut, IsLadder}
use Rattle.lop_cuts.specs.Kind.{objects_of as cycle_objects}
use Rattle.lop_cuts.proofs.ArcLemmas.{same_arc-true}
use Rattle.lop_cuts.proofs.CycleLemmas.{one_if}
use Rattle.std.proofs.lemmas.List.Sums.{sum_by-cons}
use Rattle.lop_cuts.specs.CutTests.{are_different, is_cycle, is_ladder, is_cut}

-- ---- tests over lists

pub All-list_all : {X : Type 0} (P : X → Type 0) (test : X → Bool) → ((x : X) → test x ≡ true → P x) → (xs : List X) → list_all test xs ≡ true → All P xs
All-list_all P test each [] e = All-nil P
All-list_all P test each (x ∷ xs) e =
    let parts = and_parts (test x) (list_all test xs) e in
    All-cons P x xs (each x parts.0) (All-list_all P test each xs parts.1)

pub list_all-All : {X : Type 0} (P : X → Type 0) (test : X → Bool) → ((x : X) → P x → test x ≡ true) → (xs : List X) → All P xs → list_all test xs ≡ true
list_all-All P test each [] h = refl
list_all-All P test each (x ∷ xs) h = and_from _ _ (each x (All-head P x xs h)) (list_all-All P test each xs (All-tail P x xs h))

-- ---- different objects

others_from : (x : ℕ) (xs : List ℕ) → list_all (λ y. not (nat_eq x y)) xs ≡ true → AllByRecursion (λ y. nat_eq x y ≡ false) xs
others_from x [] e = tt
others_from x (y ∷ ys) e =
    let parts = and_parts (not (nat_eq x y)) (list_all (λ z. not (nat_eq x z)) ys) e in
    (not-true (nat_eq x y) parts.0, others_from x ys parts.1)

others_test : (x : ℕ) (xs : List ℕ) → AllByRecursion (λ y. nat_eq x y ≡ false) xs → list_all (λ y. not (nat_eq x y)) xs ≡ true
others_test x [] h = refl
others_test x (y ∷ ys) h = and_from _ _ (not_from_false (nat_eq x y) h.0) (others_test x ys h.1)

pub IsDistinct-are_different : (xs : List ℕ) → are_different xs ≡ true → IsDistinct nat_eq xs
unfolding IsDistinct
IsDistinct-are_different [] e = tt
IsDistinct-are_different (x ∷ xs) e =
    let parts = and_parts (list_all (λ y. not (nat_eq x y)) xs) (are_different xs) e in
    (others_from x xs parts.0, IsDistinct-are_different xs parts.1)

pub are_different-IsDistinct : (xs : List ℕ) → IsDistinct nat_eq xs → are_different xs ≡ true
unfolding IsDistinct
are_different-IsDistinct [] h = refl
are_different-IsDistinct (x ∷ xs) h = and_from _ _ (others_test x xs h.0) (are_different-IsDistinct xs h.1)

-- ---- cycles

IsCycle-is_cycle : (xs : List ℕ) → is_cycle xs ≡ true → IsCycle xs
IsCycle-is_cycle xs e =
    let parts = and_parts (eqb (length xs) 3 || eqb (length xs) 4) (are_different xs) e in
    record {
      size = elim (or_cases (eqb (length xs) 3) (eqb (length xs) 4) parts.0) [ inl three ↦ inl (eqb-true (length xs) 3 three) | inr four ↦ inr (eqb-true (length xs) 4 four) ];
      distinct = IsDistinct-are_different xs parts.1;
    }

is_cycle-IsCycle : (xs : List ℕ) → IsCycle xs → is_cycle xs ≡ true
is_cycle-IsCycle xs h =
    and_from _ _ (elim h.size [ inl three ↦ or_left (eqb (length xs) 3) (eqb (length xs) 4) (eq-eqb _ _ three) | inr four ↦ or_right (eqb (length xs) 3) (eqb (length xs) 4) (eq-eqb _ _ four) ]) (are_different-IsDistinct xs h.distinct)

-- ---- arcs of cycles

abbrev arcs_in : List (List ℕ) → List Pair
arcs_in cycles = flat_map cycle_arcs cycles

-- an arc of none of the cycles is in none of them
with_none : (a : Pair) (cycles : List (List ℕ)) → has_pair (arcs_in cycles) a.before a.after ≡ false → cycles_with a cycles ≡ 0
with_none a [] e = refl
with_none a (c ∷ cs) e =
    let split : (has_pair (cycle_arcs c) a.before a.after || has_pair (arcs_in cs) a.before a.after) ≡ false = sym (list_any-append (λ p. eqb p.before a.before && eqb p.after a.after) (cycle_arcs c) (arcs_in cs)) ∙ e in
    parts (with_none a cs) (has_pair (cycle_arcs c) a.before a.after) (has_pair (arcs_in cs) a.before a.after) refl refl split
  where
    parts : (has_pair (arcs_in cs) a.before a.after ≡ false → cycles_with a cs ≡ 0) → (s t : Bool) → has_pair (cycle_arcs c) a.before a.after ≡ s → has_pair (arcs_in cs) a.before a.after ≡ t → (s || t) ≡ false → cycles_with a (c ∷ cs) ≡ 0
    parts others true t is rest f = absurd (false≢true (sym f))
    parts others false true is rest f = absurd (false≢true (sym f))
    parts others false false is rest f = sum_by-cons (λ x. one_if (has_pair (cycle_arcs x) a.before a.after)) c cs ∙ omega (arith, ap one_if is, others rest)

-- a test that holds of all arcs of a list holds of one that it has
test_at : (test : Pair → Bool) (arcs : List Pair) (a : Pair) → list_all test arcs ≡ true → has_pair arcs a.before a.after ≡ true → test a ≡ true
test_at test [] a all has = absurd (false≢true has)
test_at test (x ∷ xs) a all has =
    let parts = and_parts (test x) (list_all test xs) all in
    elim (or_cases (same_arc x a) (has_pair xs a.before a.after) has) [
      | inl same ↦ subst (λ (p : Pair). test p ≡ true) (same_arc-true x a same) parts.0
      | inr later ↦ test_at test xs a parts.1 later
    ]

twice_from : (cycles : List (List ℕ)) → list_all (λ a. nat_le (cycles_with a cycles) 2) (arcs_in cycles) ≡ true → (a : Pair) → cycles_with a cycles ≤ 2
twice_from cycles all a = by (has_pair (arcs_in cycles) a.before a.after) refl
  where
    by : (t : Bool) → has_pair (arcs_in cycles) a.before a.after ≡ t → cycles_with a cycles ≤ 2
    by true has = leb-true (cycles_with a cycles) 2 (test_at (λ p. nat_le (cycles_with p cycles) 2) (arcs_in cycles) a all has)
    by false none = omega (arith, with_none a cycles none)

twice_test : (cycles : List (List ℕ)) (arcs : List Pair) → ((a : Pair) → cycles_with a cycles ≤ 2) → list_all (λ a. nat_le (cycles_with a cycles) 2) arcs ≡ true
twice_test cycles [] h = refl
twice_test cycles (a ∷ arcs) h = and_from _ _ (le-leb (cycles_with a cycles) 2 (h a)) (twice_test cycles arcs h)

-- ---- ladders

IsLadder-is_ladder : (cs : List (List ℕ)) → is_ladder cs ≡ true → IsLadder cs
IsLadder-is_ladder cs e =
    let first = and_parts (nat_le 3 (length cs) && nat_le (length cs) 9 && eqb (length cs % 2) 1 && list_all is_cycle cs) (list_all (λ a. nat_le (cycles_with a cs) 2) (arcs_in cs)) e in
    let second = and_parts (nat_le 3 (length cs) && nat_le (length cs) 9 && eqb (length cs % 2) 1) (list_all is_cycle cs) first.0 in
    let third = and_parts (nat_le 3 (length cs) && nat_le (length cs) 9) (eqb (length cs % 2) 1) second.0 in
    let fourth = and_parts (nat_le 3 (length cs)) (nat_le (length cs) 9) third.0 in
    record {
      at_least = leb-true 3 (length cs) fourth.0;
      at_most = leb-true (length cs) 9 fourth.1;
      odd = eqb-true (length cs % 2) 1 third.1;
      each = All-list_all IsCycle is_cycle IsCycle-is_cycle cs second.1;
      twice = twice_from cs first.1;
    }

is_ladder-IsLadder : (cs : List (List ℕ)) → IsLadder cs → is_ladder cs ≡ true
is_ladder-IsLadder cs h =
    and_from _ _ (and_from _ _ (and_from _ _ (and_from _ _ (le-leb 3 (length cs) h.at_least) (le-leb (length cs) 9 h.at_most)) (eq-eqb (length cs % 2) 1 h.odd)) (list_all-All IsCycle is_cycle is_cycle-IsCycle cs h.each)) (twice_test cs (arcs_in cs) h.twice)

-- ---- cuts

pub IsCut-is_cut : (cut : CutKind) → is_cut cut ≡ true → IsCut cut
IsCut-is_cut (kind.Dicycle objects) e =
    let parts = and_parts (eqb (length objects) 3) (are_different objects) e in
    record { size = eqb-true (length objects) 3 parts.0; distinct = IsDistinct-are_different objects parts.1 }
IsCut-is_cut (kind.Fence u w) e =
    let k = length u.items in
    let first = and_parts (eqb k (length w.items) && nat_le 3 k && nat_le k 8) (are_different (u.items ++ w.items)) e in
    let second = and_parts (eqb k (length w.items) && nat_le 3 k) (nat_le k 8) first.0 in
    let third = and_parts (eqb k (length w.items)) (nat_le 3 k) second.0 in
    record {
      same_length = eqb-true k (length w.items) third.0;
      at_least = leb-true 3 k third.1;
      at_most = leb-true k 8 second.1;
      distinct = IsDistinct-are_different (u.items ++ w.items) first.1;
    }
IsCut-is_cut (kind.Ladder cycles) e = IsLadder-is_ladder (map cycle_objects cycles.items) e

pub is_cut-IsCut : (cut : CutKind) → IsCut cut → is_cut cut ≡ true
is_cut-IsCut (kind.Dicycle objects) h = and_from _ _ (eq-eqb (length objects) 3 h.size) (are_different-IsDistinct objects h.distinct)
is_cut-IsCut (kind.Fence u w) h =
    let k = length u.items in
    and_from _ _ (and_from _ _ (and_from _ _ (eq-eqb k (length w.items) h.same_length) (le-leb 3 k h.at_least)) (le-leb k 8 h.at_most)) (are_different-IsDistinct (u.items ++ w.items) h.distinct)
is_cut-IsCut (kind.Ladder cycles) h = is_ladder-IsLadder (map cycle_objects cycles.items) h
