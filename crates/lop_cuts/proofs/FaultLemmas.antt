-- What a fault of objects or cycles rules out, and what cycles that are right in turn have together.
use Rattle.std.proofs.Common.{◌≢◌, ◌%◌, ◌≡◌, ◌+◌, ◌<◌, ◌≤◌, ℕ, zero, suc, Bool, true, false, nat_eq, List, [], ◌∷◌, ◌++◌, length, get_or, take, map, All, Any, Contains, add-one, refl, sym, ap, ◌∙◌, subst, arith}
use Rattle.std.specs.List.{IsDistinct, flat_map, list_any}
use Rattle.std.proofs.lemmas.Bool.{both_ways, eq-eqb, eqb-true}
use Rattle.std.proofs.lemmas.List.{take_more, take_all, get_or_default, get_or-take, length-map, get_or-map, take-map, map-append, length-take}
use Rattle.std.proofs.lemmas.List.Elements.{All-contains, All-nil, All-append}
use Rattle.std.proofs.lemmas.List.Sums.{sum_by_push}
use Rattle.std.proofs.lemmas.Map.Keys.{apart_from_distinct}
use Rattle.std.proofs.lemmas.Map.Views.{Contains-from_any}
use Rattle.lop_model.specs.declared.pair.Pair.{Pair}
use Rattle.lop_cuts.specs.declared.fault.CutFault.{CutFault}
use Rattle.lop_cuts.specs.declared.fault.CutFault.TheVariants.{CountRange, CountEven, Range, Repeated, ArcThrice}
use Rattle.lop_cuts.specs.declared.kind.Cycle.{Cycle}
use Rattle.lop_cuts.specs.Arcs.{same_arc, cycle_arcs, cycles_with, IsCycle}
use Rattle.lop_cuts.specs.Kind.{objects_of, IsLadder}
use Rattle.lop_cuts.specs.Fault.{AreCycles, IsObjectFault, IsNextCycle, IsCycleFault, IsFirstCycleFault, IsLadderCount, cycle_at}
use Rattle.lop_cuts.proofs.CycleLemmas.{one_if, one_if_le}
use Rattle.lop_cuts.proofs.ArcLemmas.{has_arc, same_arc-true}

-- an object that stood before is not different from those before
pub repeated : (xs : List ℕ) (place : ℕ) → place < length xs → Contains (take place xs) (get_or xs place 0) → IsDistinct nat_eq xs → ⊥
repeated xs place l (k, below, same) distinct =
    let x = get_or xs place 0 in
    let k_below : k < place = omega (arith, length-take place xs) in
    let at : get_or xs k 0 ≡ x = get_or_default xs k 0 x (omega arith) ∙ sym (get_or-take place xs k x k_below) ∙ same in
    both_ways (nat_eq (get_or xs k 0) x) (apart_from_distinct nat_eq xs k place 0 distinct k_below l) (eq-eqb _ _ at)

-- nor where a test finds it among them
pub repeated_by_test : (xs : List ℕ) (place : ℕ) → place < length xs → list_any (λ y. nat_eq y (get_or xs place 0)) (take place xs) ≡ true → IsDistinct nat_eq xs → ⊥
repeated_by_test xs place l found =
    repeated xs place l (Contains-from_any {eq = λ x y. nat_eq y x} (λ x y h. sym (eqb-true y x h)) (get_or xs place 0) (take place xs) found)

-- where all objects are in range, a fault among them is a repetition
pub not_distinct : (n : ℕ) (xs : List ℕ) (fault : CutFault) → IsObjectFault n xs fault → All (λ x. x < n) xs → IsDistinct nat_eq xs → ⊥
not_distinct n xs (Range place) h in_range d = omega (arith, h.2, in_range place 0 h.0)
not_distinct n xs (Repeated place) h in_range d = repeated xs place h.0 h.3 d
not_distinct n xs CountRange h in_range d = h
not_distinct n xs CountEven h in_range d = h
not_distinct n xs (ArcThrice _) h in_range d = h

-- how many of the first cycles have an arc, with one more
pub cycles_with_more : {X : Type 0} (f : X → List ℕ) (a : Pair) (xs : List X) (i : ℕ) (d : X) → i < length xs → cycles_with a (map f (take (i + 1) xs)) ≡ cycles_with a (map f (take i xs)) + one_if (has_arc (cycle_arcs (f (get_or xs i d))) a)
cycles_with_more f a xs i d l =
    ap (λ ys. cycles_with a (map f ys)) (take_more xs i d l)
    ∙ ap (cycles_with a) (map-append f (take i xs) (get_or xs i d ∷ []))
    ∙ sum_by_push (λ c. one_if (has_arc (cycle_arcs c) a)) (map f (take i xs)) (f (get_or xs i d))

-- the same, where it is known whether the next one has it
pub cycles_with_found : {X : Type 0} (f : X → List ℕ) (a : Pair) (xs : List X) (i : ℕ) (d : X) (found : Bool) → i < length xs → has_arc (cycle_arcs (f (get_or xs i d))) a ≡ found → cycles_with a (map f (take (i + 1) xs)) ≡ cycles_with a (map f (take i xs)) + one_if found
cycles_with_found f a xs i d found l e =
    omega (arith, cycles_with_more f a xs i d l, ap one_if e)

-- cycles that are right in turn have no arc thrice
twice_so_far : (n : ℕ) (cycles : List (List ℕ)) → AreCycles n cycles → (a : Pair) (i : ℕ) → i ≤ length cycles → cycles_with a (take i cycles) ≤ 2
twice_so_far n cycles right a zero l = omega arith
twice_so_far n cycles right a (suc i) l = split (twice_so_far n cycles right a i (omega arith)) (has_arc (cycle_arcs (get_or cycles i [])) a) refl
  where
    c : List ℕ
    c = get_or cycles i []

    counted : cycles_with a (take (suc i) cycles) ≡ cycles_with a (take i cycles) + one_if (has_arc (cycle_arcs c) a)
    counted =
        let more : take (suc i) cycles ≡ take i cycles ++ c ∷ [] = rw (← add-one) (take_more cycles i [] (omega arith)) in
        ap (cycles_with a) more ∙ sum_by_push (λ xs. one_if (has_arc (cycle_arcs xs) a)) (take i cycles) c

    split : cycles_with a (take i cycles) ≤ 2 → (b : Bool) → has_arc (cycle_arcs c) a ≡ b → cycles_with a (take (suc i) cycles) ≤ 2
    split before true e =
        let has = Contains-from_any {eq = λ x y. same_arc y x} (λ x y h. sym (same_arc-true y x h)) a (cycle_arcs c) e in
        let one = All-contains (λ b. cycles_with b (take i cycles) ≤ 1) (cycle_arcs c) a (right i (omega arith)).at_most_one has in
        omega (arith, counted, one, one_if_le (has_arc (cycle_arcs c) a))
    split before false e =
        let none : one_if (has_arc (cycle_arcs c) a) ≡ 0 = ap one_if e in
        omega (arith, counted, none, before)

-- the right number of cycles that are right in turn is a ladder
pub IsLadder-from_cycles : (n : ℕ) (cycles : List (List ℕ)) → IsLadderCount cycles → AreCycles n cycles → IsLadder cycles
IsLadder-from_cycles n cycles count right = record {
  at_least = count.at_least;
  at_most = count.at_most;
  odd = count.odd;
  each = λ k d l. subst IsCycle (get_or_default cycles k [] d l) (right k l).cycle;
  twice = λ a. subst (λ xs. cycles_with a xs ≤ 2) (take_all (length cycles) cycles (omega arith)) (twice_so_far n cycles right a (length cycles) (omega arith));
}

-- a cycle that is right after those before it, at its place among all
pub IsNextCycle-at : (n : ℕ) (cycles : List Cycle) (i : ℕ) (d : Cycle) → i < length cycles → IsNextCycle n (map objects_of (take i cycles)) (objects_of (get_or cycles i d)) → IsNextCycle n (take i (map objects_of cycles)) (cycle_at (map objects_of cycles) i)
IsNextCycle-at n cycles i d l right =
    rw (take-map objects_of i cycles, get_or-map objects_of cycles i d [] l) right

-- the fault of a cycle after those before it, at its place among all
pub IsFirstCycleFault-at : (n : ℕ) (cycles : List Cycle) (i : ℕ) (d : Cycle) (fault : CutFault) → i < length cycles → ((k : ℕ) → k < i → IsNextCycle n (take k (map objects_of cycles)) (cycle_at (map objects_of cycles) k)) → IsCycleFault n (map objects_of (take i cycles)) (objects_of (get_or cycles i d)) fault → IsFirstCycleFault n (map objects_of cycles) fault
IsFirstCycleFault-at n cycles i d fault l before here = record {
  place = i;
  in_bounds = omega (arith, length-map cycles objects_of);
  before = before;
  here = moved;
}
  where
    moved : IsCycleFault n (take i (map objects_of cycles)) (cycle_at (map objects_of cycles) i) fault
    moved = rw (take-map objects_of i cycles, get_or-map objects_of cycles i d [] l) here

-- what holds of each arc that a loop has passed holds of all in the end
pub All-passed : (P : Pair → Type 0) (xs ys : List Pair) (i : ℕ) → xs ≡ ys → length xs ≤ i → All P (take i xs) → All P ys
All-passed P xs ys i e l h =
    let Q : List Pair → Type 0 = λ zs. All P zs in
    subst Q (take_all i xs l ∙ e) h

-- what holds of the arc at a place holds of some arc
pub Any-at : (P : Pair → Type 0) (xs ys : List Pair) (i : ℕ) (d : Pair) → xs ≡ ys → i < length xs → P (get_or xs i d) → Any P ys
Any-at P xs ys i d e l h =
    let Q : List Pair → Type 0 = λ zs. Any P zs in
    subst Q e (i, get_or xs i d, l, get_or_default xs i (get_or xs i d) d l, h)

-- what holds of the objects of each cycle holds of those of all
all_flat : (n : ℕ) (cs : List Cycle) → ((k : ℕ) (d : Cycle) → k < length cs → All (λ x. x < n) (objects_of (get_or cs k d))) → All (λ x. x < n) (flat_map objects_of cs)
all_flat n [] h = All-nil (λ x. x < n)
all_flat n (c ∷ cs) h =
    All-append (λ x. x < n) (objects_of c) (flat_map objects_of cs) (h 0 c (omega arith)) (all_flat n cs (λ k d l. h (suc k) d (omega arith)))

-- cycles that are right in turn have all their objects below n
pub all_below-from_cycles : (n : ℕ) (cycles : List Cycle) → AreCycles n (map objects_of cycles) → All (λ x. x < n) (flat_map objects_of cycles)
all_below-from_cycles n cycles right =
    all_flat n cycles (λ k d l. subst P (get_or-map objects_of cycles k d [] l) (right k (omega (arith, length-map cycles objects_of))).in_range)
  where
    P : List ℕ → Type 0
    P xs = All (λ x. x < n) xs

-- the count of a ladder, by the tests that the code makes
pub IsLadderCount-from_checks : (cycles : List Cycle) → 3 ≤ length cycles → length cycles ≤ 9 → length cycles % 2 ≢ 0 → IsLadderCount (map objects_of cycles)
IsLadderCount-from_checks cycles low high odd =
    let same = length-map cycles objects_of in
    record { at_least = omega (arith, same); at_most = omega (arith, same); odd = omega (arith, same, odd) }

-- the code's cycles are a ladder, by the tests that it makes
pub IsLadder-from_checks : (n : ℕ) (cycles : List Cycle) → 3 ≤ length cycles → length cycles ≤ 9 → length cycles % 2 ≢ 0 → AreCycles n (map objects_of cycles) → IsLadder (map objects_of cycles)
IsLadder-from_checks n cycles low high odd right =
    IsLadder-from_cycles n (map objects_of cycles) (IsLadderCount-from_checks cycles low high odd) right
