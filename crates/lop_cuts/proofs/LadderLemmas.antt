-- An order keeps at most the number of a ladder's arcs less (k+1)/2 of them.
use Rattle.std.proofs.Common.{◌≡◌, ◌+◌, ◌-◌, ◌*◌, ◌/◌, ◌%◌, ◌<◌, ◌≤◌, ◌⊎◌, ℕ, Bool, true, false, not, ◌&&◌, eqb, List, [], ◌∷◌, ◌++◌, length, length-append, count_by, refl, ap, ◌∙◌, subst, inl, inr, arith}
use Rattle.std.specs.List.{flat_map, IsDistinct, AllByRecursion}
use Rattle.std.specs.Prelude.{nat_eq}
use Rattle.std.proofs.lemmas.Bool.{or_parts, eqb-true}
use Rattle.std.proofs.lemmas.Cmp.{nat_eq_equiv}
use Rattle.std.proofs.lemmas.List.Sums.{sum_by-cons, sum_by-append}
use Rattle.lop_model.specs.declared.pair.Pair.{Pair}
use Rattle.lop_model.specs.Order.{stands_before}
use Rattle.lop_cuts.specs.Arcs.{arc, same_arc, kept_count, arcs_back_to, cycle_arcs, cycles_with, IsCycle, ladder_arcs}
use Rattle.lop_cuts.proofs.CycleLemmas.{one_if, one_if_le, kept_count-cons, kept_count-append, cycle_loses_arc}
use Rattle.lop_cuts.proofs.ArcLemmas.{has_arc, times, times-cons, count_by-le-twice, has_arc-distinct_arcs}

-- how often an object stands in a list
abbrev places : ℕ → List ℕ → ℕ
places q xs = count_by (λ y. nat_eq y q) xs

-- how often an object stands in a list with one more in front
places-cons : (q x : ℕ) (xs : List ℕ) → places q (x ∷ xs) ≡ one_if (nat_eq x q) + places q xs
places-cons q x xs = sum_by-cons (λ y. one_if (nat_eq y q)) x xs

-- an object that differs from all of a list stands nowhere in it
places_none : (q : ℕ) (xs : List ℕ) → AllByRecursion (λ y. nat_eq q y ≡ false) xs → places q xs ≡ 0
places_none q [] h = refl
places_none q (x ∷ xs) h =
    let e : one_if (nat_eq x q) ≡ 0 = ap one_if (nat_eq_equiv.symm x q ∙ h.0) in
    omega (arith, places-cons q x xs, places_none q xs h.1, e)

-- an object stands at most once among different ones
places_once : (q : ℕ) (xs : List ℕ) → IsDistinct nat_eq xs → places q xs ≤ 1
unfolding IsDistinct
places_once q [] h = omega arith
places_once q (x ∷ xs) h = split (places_once q xs h.1) (nat_eq x q) refl
  where
    split : places q xs ≤ 1 → (b : Bool) → nat_eq x q ≡ b → places q (x ∷ xs) ≤ 1
    split rest true e =
        let same = eqb-true x q e in
        let P : ℕ → Type 0 = λ y. places y xs ≡ 0 in
        let none : places q xs ≡ 0 = subst P same (places_none x xs h.0) in
        omega (arith, places-cons q x xs, one_if_le (nat_eq x q), none)
    split rest false e =
        let own : one_if (nat_eq x q) ≡ 0 = ap one_if e in
        omega (arith, places-cons q x xs, own, rest)

-- two tests hold only where the first does
one_if_and : (p q : Bool) → one_if (p && q) ≤ one_if p
one_if_and true q = one_if_le q
one_if_and false q = omega arith

-- an arc stands in a path at most as often as its first object
times_path : (d : Pair) (first x : ℕ) (xs : List ℕ) → times d (arcs_back_to first x xs) ≤ places d.before (x ∷ xs)
times_path d first x [] =
    omega (arith, times-cons d (arc x first) [], places-cons d.before x [], one_if_and (eqb x d.before) (eqb first d.after))
times_path d first x (y ∷ ys) =
    omega (arith, times-cons d (arc x y) (arcs_back_to first y ys), places-cons d.before x (y ∷ ys), one_if_and (eqb x d.before) (eqb y d.after), times_path d first y ys)

-- an arc that a list doesn't have stands nowhere in it
times_none : (d : Pair) (arcs : List Pair) → has_arc arcs d ≡ false → times d arcs ≡ 0
times_none d [] h = refl
times_none d (a ∷ arcs) h =
    let parts = or_parts (same_arc a d) (has_arc arcs d) h in
    let own : one_if (same_arc a d) ≡ 0 = ap one_if parts.0 in
    omega (arith, times-cons d a arcs, times_none d arcs parts.1, own)

-- an arc stands in a cycle once or not at all
times_cycle : (d : Pair) (xs : List ℕ) → IsDistinct nat_eq xs → times d (cycle_arcs xs) ≤ one_if (has_arc (cycle_arcs xs) d)
times_cycle d xs h = split (has_arc (cycle_arcs xs) d) refl
  where
    once : (ys : List ℕ) → IsDistinct nat_eq ys → times d (cycle_arcs ys) ≤ 1
    once [] h = omega arith
    once (y ∷ ys) h = omega (arith, times_path d y y ys, places_once d.before (y ∷ ys) h)

    split : (b : Bool) → has_arc (cycle_arcs xs) d ≡ b → times d (cycle_arcs xs) ≤ one_if b
    split true e = once xs h
    split false e = omega (arith, times_none d (cycle_arcs xs) e)

-- an arc stands in all cycles' arcs at most as often as there are cycles that have it
times_cycles : (d : Pair) (cycles : List (List ℕ)) → AllByRecursion IsCycle cycles → times d (flat_map cycle_arcs cycles) ≤ cycles_with d cycles
times_cycles d [] h = omega arith
times_cycles d (c ∷ cs) h =
    let both : times d (cycle_arcs c ++ flat_map cycle_arcs cs) ≡ times d (cycle_arcs c) + times d (flat_map cycle_arcs cs) = sum_by-append (λ x. one_if (same_arc x d)) (cycle_arcs c) (flat_map cycle_arcs cs) in
    let counted : cycles_with d (c ∷ cs) ≡ one_if (has_arc (cycle_arcs c) d) + cycles_with d cs = sum_by-cons (λ x. one_if (has_arc (cycle_arcs x) d)) c cs in
    omega (arith, both, counted, times_cycle d c h.0.distinct, times_cycles d cs h.1)

module _ (s : List ℕ) where
  -- an arc is lost where it is not kept
  abbrev is_lost : Pair → Bool
  is_lost a = not (stands_before s a.before a.after)

  -- an arc is kept or lost
  lost_count : (arcs : List Pair) → kept_count s arcs + count_by is_lost arcs ≡ length arcs
  lost_count [] = refl
  lost_count (a ∷ arcs) = split (lost_count arcs) (stands_before s a.before a.after)
    where
      one : (b : Bool) → one_if b + one_if (not b) ≡ 1
      one true = refl
      one false = refl

      split : kept_count s arcs + count_by is_lost arcs ≡ length arcs → (b : Bool) → kept_count s (a ∷ arcs) + count_by is_lost (a ∷ arcs) ≡ length (a ∷ arcs)
      split rest b =
          let lost : count_by is_lost (a ∷ arcs) ≡ one_if (is_lost a) + count_by is_lost arcs = sum_by-cons (λ x. one_if (is_lost x)) a arcs in
          omega (arith, kept_count-cons s a arcs, lost, one (stands_before s a.before a.after), rest)

  -- each cycle loses an arc
  cycles_lose : (cycles : List (List ℕ)) → AllByRecursion IsCycle cycles → kept_count s (flat_map cycle_arcs cycles) + length cycles ≤ length (flat_map cycle_arcs cycles)
  cycles_lose [] h = omega arith
  cycles_lose (c ∷ cs) h =
      omega (arith, one_lost c h.0, cycles_lose cs h.1, kept_count-append s (cycle_arcs c) (flat_map cycle_arcs cs), length-append (cycle_arcs c) (flat_map cycle_arcs cs))
    where
      not_empty : (xs : List ℕ) → (length xs ≡ 3) ⊎ (length xs ≡ 4) → 0 < length xs
      not_empty xs (inl e) = omega arith
      not_empty xs (inr e) = omega arith

      one_lost : (xs : List ℕ) → IsCycle xs → kept_count s (cycle_arcs xs) < length (cycle_arcs xs)
      one_lost [] cycle = absurd (omega (arith, not_empty [] cycle.size))
      one_lost (x ∷ xs) cycle = cycle_loses_arc s x xs

  -- of the arcs of an odd number k of cycles, none in more than two, an order loses (k+1)/2
  pub ladder_kept : (cycles : List (List ℕ)) → AllByRecursion IsCycle cycles → length cycles % 2 ≡ 1 → ((a : Pair) → cycles_with a cycles ≤ 2) → kept_count s (ladder_arcs cycles) ≤ length (ladder_arcs cycles) - (length cycles + 1) / 2
  ladder_kept cycles each odd twice =
      let all = flat_map cycle_arcs cycles in
      let lost_all = cycles_lose cycles each in
      let lost = count_by-le-twice is_lost all (ladder_arcs cycles) (has_arc-distinct_arcs all) (λ d. omega (arith, times_cycles d cycles each, twice d)) in
      omega (arith, lost_all, lost, lost_count all, lost_count (ladder_arcs cycles), odd)

-- the distinct arcs of k cycles, none in more than two, are at least half of k
pub ladder_long : (cycles : List (List ℕ)) → AllByRecursion IsCycle cycles → ((a : Pair) → cycles_with a cycles ≤ 2) → length cycles ≤ 2 * length (ladder_arcs cycles)
ladder_long cycles each twice =
    let all = flat_map cycle_arcs cycles in
    let doubled = count_by-le-twice (λ _. true) all (ladder_arcs cycles) (has_arc-distinct_arcs all) (λ d. omega (arith, times_cycles d cycles each, twice d)) in
    omega (arith, doubled, count_all all, count_all (ladder_arcs cycles), enough cycles each)
  where
    count_all : (arcs : List Pair) → count_by (λ _. true) arcs ≡ length arcs
    count_all [] = refl
    count_all (a ∷ arcs) =
        let counted : count_by (λ _. true) (a ∷ arcs) ≡ 1 + count_by (λ _. true) arcs = sum_by-cons (λ _. 1) a arcs in
        omega (arith, counted, count_all arcs)

    has_one : (xs : List ℕ) → (length xs ≡ 3) ⊎ (length xs ≡ 4) → 1 ≤ length (cycle_arcs xs)
    has_one [] (inl e) = absurd (omega arith)
    has_one [] (inr e) = absurd (omega arith)
    has_one (x ∷ []) e = omega arith
    has_one (x ∷ y ∷ xs) e = omega arith

    enough : (cycles : List (List ℕ)) → AllByRecursion IsCycle cycles → length cycles ≤ length (flat_map cycle_arcs cycles)
    enough [] h = omega arith
    enough (c ∷ cs) h =
        omega (arith, length-append (cycle_arcs c) (flat_map cycle_arcs cs), has_one c h.0.size, enough cs h.1)
