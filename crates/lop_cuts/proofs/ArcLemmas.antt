-- Lists of arcs: what they have, how often, and each once.
use Rattle.std.proofs.Common.{◌≡◌, ◌+◌, ◌*◌, ◌≤◌, ℕ, Bool, true, false, not, cond, ◌||◌, eqb, List, [], ◌∷◌, count_by, refl, sym, ap, ◌∙◌, subst, inl, inr, arith}
use Rattle.std.specs.List.{filter, IsDistinct, AllByRecursion}
use Rattle.std.proofs.lemmas.Bool.{both_ways, and_parts, and_from, eqb-true, eq-eqb, or_cases, or_left, or_right, not_from_false}
use Rattle.std.proofs.lemmas.Cmp.{nat_eq_equiv}
use Rattle.std.proofs.lemmas.List.Sums.{sum_by-cons}
use Rattle.lop_model.specs.declared.pair.Pair.{Pair}
use Rattle.lop_model.specs.Fixings.{has_pair}
use Rattle.lop_cuts.specs.Arcs.{arc, same_arc, distinct_arcs}
use Rattle.lop_cuts.proofs.CycleLemmas.{one_if}

-- the test of two arcs means that they are equal
pub same_arc-true : (a b : Pair) → same_arc a b ≡ true → a ≡ b
same_arc-true a b h =
    let parts = and_parts (eqb a.before b.before) (eqb a.after b.after) h in
    let first = eqb-true a.before b.before parts.0 in
    let second = eqb-true a.after b.after parts.1 in
    let both : arc a.before a.after ≡ arc b.before b.after = cc in
    both

-- an arc is the same as itself
pub same_arc-refl : (a : Pair) → same_arc a a ≡ true
same_arc-refl a = and_from _ _ (eq-eqb a.before a.before refl) (eq-eqb a.after a.after refl)

-- the test goes both ways
pub same_arc-sym : (a b : Pair) → same_arc a b ≡ true → same_arc b a ≡ true
same_arc-sym a b h =
    let e = same_arc-true a b h in
    let P : Pair → Type 0 = λ c. same_arc c a ≡ true in
    subst P e (same_arc-refl a)

-- whether a list has an arc
abbrev pub has_arc : List Pair → Pair → Bool
has_arc arcs a = has_pair arcs a.before a.after

-- how often an arc stands in a list
abbrev pub times : Pair → List Pair → ℕ
times a arcs = count_by (λ x. same_arc x a) arcs

-- how often an arc stands in a list with one more in front
pub times-cons : (a b : Pair) (arcs : List Pair) → times a (b ∷ arcs) ≡ one_if (same_arc b a) + times a arcs
times-cons a b arcs = sum_by-cons (λ x. one_if (same_arc x a)) b arcs

module _ (test : Pair → Bool) where
  -- how often the arcs of `all` that pass stand in a list
  abbrev tally : List Pair → List Pair → ℕ
  tally all [] = 0
  tally all (d ∷ ds) = cond (test d) (times d all) 0 + tally all ds

  -- how often the arcs that pass are this one
  abbrev hits : Pair → List Pair → ℕ
  hits x [] = 0
  hits x (d ∷ ds) = cond (test d) (one_if (same_arc x d)) 0 + hits x ds

  -- one more arc of `all` adds its hits
  tally-cons : (x : Pair) (all ds : List Pair) → tally (x ∷ all) ds ≡ hits x ds + tally all ds
  tally-cons x all [] = refl
  tally-cons x all (d ∷ ds) = split (tally-cons x all ds) (test d)
    where
      split : tally (x ∷ all) ds ≡ hits x ds + tally all ds → (t : Bool) → cond t (times d (x ∷ all)) 0 + tally (x ∷ all) ds ≡ (cond t (one_if (same_arc x d)) 0 + hits x ds) + (cond t (times d all) 0 + tally all ds)
      split rest true = omega (arith, times-cons d x all, rest)
      split rest false = omega (arith, rest)

  -- an arc that passes and that ds has is hit at least once
  hits_one : (x : Pair) (ds : List Pair) → has_arc ds x ≡ true → one_if (test x) ≤ hits x ds
  hits_one x [] h = absurd (both_ways false refl h)
  hits_one x (d ∷ ds) h =
      elim (or_cases (same_arc d x) (has_arc ds x) h) [
        | inl same ↦
            let e = same_arc-true d x same in
            let P : Pair → Type 0 = λ y. one_if (test x) ≤ cond (test y) (one_if (same_arc x y)) 0 + hits x ds in
            subst P (sym e) (here (test x) (same_arc x x) (same_arc-refl x))
        | inr later ↦ omega (arith, hits_one x ds later)
      ]
    where
      here : (t s : Bool) → s ≡ true → one_if t ≤ cond t (one_if s) 0 + hits x ds
      here true true e = omega arith
      here true false e = absurd (both_ways false refl e)
      here false s e = omega arith

  -- each arc of `all` that passes is counted at one of ds
  count_by-le-tally : (all ds : List Pair) → ((x : Pair) → has_arc all x ≡ true → has_arc ds x ≡ true) → count_by test all ≤ tally all ds
  count_by-le-tally [] ds h = omega arith
  count_by-le-tally (x ∷ all) ds h =
      let here = hits_one x ds (h x (or_left (same_arc x x) (has_arc all x) (same_arc-refl x))) in
      let rest = count_by-le-tally all ds (λ y in'. h y (or_right (same_arc x y) (has_arc all y) in')) in
      let counted : count_by test (x ∷ all) ≡ one_if (test x) + count_by test all = sum_by-cons (λ y. one_if (test y)) x all in
      omega (arith, here, rest, counted, tally-cons x all ds)

  -- where each arc stands at most twice in `all`, the tally is at most twice the arcs of ds that pass
  tally-le : (all ds : List Pair) → ((d : Pair) → times d all ≤ 2) → tally all ds ≤ 2 * count_by test ds
  tally-le all [] h = omega arith
  tally-le all (d ∷ ds) h = split (tally-le all ds h) (test d) refl
    where
      split : tally all ds ≤ 2 * count_by test ds → (t : Bool) → test d ≡ t → cond t (times d all) 0 + tally all ds ≤ 2 * count_by test (d ∷ ds)
      split rest true e =
          let counted : count_by test (d ∷ ds) ≡ one_if (test d) + count_by test ds = sum_by-cons (λ y. one_if (test y)) d ds in
          let own : one_if (test d) ≡ 1 = ap one_if e in
          omega (arith, rest, h d, counted, own)
      split rest false e =
          let counted : count_by test (d ∷ ds) ≡ one_if (test d) + count_by test ds = sum_by-cons (λ y. one_if (test y)) d ds in
          omega (arith, rest, counted)

  -- where each arc stands at most twice, and ds has each, ds has at least half as many that pass
  pub count_by-le-twice : (all ds : List Pair) → ((x : Pair) → has_arc all x ≡ true → has_arc ds x ≡ true) → ((d : Pair) → times d all ≤ 2) → count_by test all ≤ 2 * count_by test ds
  count_by-le-twice all ds h t = omega (arith, count_by-le-tally all ds h, tally-le all ds t)

-- a filter keeps an arc that passes
pub has_arc-filter : (test : Pair → Bool) (xs : List Pair) (a : Pair) → test a ≡ true → has_arc xs a ≡ true → has_arc (filter test xs) a ≡ true
has_arc-filter test [] a t h = h
has_arc-filter test (x ∷ xs) a t h = split (has_arc-filter test xs a t) (test x) refl
  where
    split : (has_arc xs a ≡ true → has_arc (filter test xs) a ≡ true) → (b : Bool) → test x ≡ b → has_arc (cond b (x ∷ filter test xs) (filter test xs)) a ≡ true
    split rest true e =
        elim (or_cases (same_arc x a) (has_arc xs a) h) [
          | inl same ↦ or_left (same_arc x a) (has_arc (filter test xs) a) same
          | inr later ↦ or_right (same_arc x a) (has_arc (filter test xs) a) (rest later)
        ]
    split rest false e =
        elim (or_cases (same_arc x a) (has_arc xs a) h) [
          | inl same ↦ absurd (both_ways (test a) (ap test (sym (same_arc-true x a same)) ∙ e) t)
          | inr later ↦ rest later
        ]

-- each arc of a list stands among the distinct ones
pub has_arc-distinct_arcs : (xs : List Pair) (a : Pair) → has_arc xs a ≡ true → has_arc (distinct_arcs xs) a ≡ true
has_arc-distinct_arcs [] a h = h
has_arc-distinct_arcs (x ∷ xs) a h = split (has_arc-distinct_arcs xs a) (same_arc x a) refl
  where
    later : List Pair
    later = filter (λ b. not (same_arc x b)) (distinct_arcs xs)

    split : (has_arc xs a ≡ true → has_arc (distinct_arcs xs) a ≡ true) → (b : Bool) → same_arc x a ≡ b → (same_arc x a || has_arc later a) ≡ true
    split rest true e = or_left (same_arc x a) (has_arc later a) e
    split rest false e =
        elim (or_cases (same_arc x a) (has_arc xs a) h) [
          | inl same ↦ or_left (same_arc x a) (has_arc later a) same
          | inr more ↦ or_right (same_arc x a) (has_arc later a) (has_arc-filter (λ b. not (same_arc x b)) (distinct_arcs xs) a (not_from_false (same_arc x a) e) (rest more))
        ]

-- the same test with its arguments the other way round
same_arc_flip : (a b : Pair) → same_arc a b ≡ same_arc b a
same_arc_flip a b = rw (nat_eq_equiv.symm a.before b.before, nat_eq_equiv.symm a.after b.after)

-- an arc that is the same as none of a list stands nowhere in it
times_other : (d : Pair) (arcs : List Pair) → AllByRecursion (λ b. same_arc d b ≡ false) arcs → times d arcs ≡ 0
times_other d [] h = refl
times_other d (a ∷ arcs) h =
    let own : one_if (same_arc a d) ≡ 0 = ap one_if (same_arc_flip a d ∙ h.0) in
    omega (arith, times-cons d a arcs, own, times_other d arcs h.1)

-- an arc stands among distinct ones once or not at all
pub times-distinct : (d : Pair) (arcs : List Pair) → IsDistinct same_arc arcs → times d arcs ≡ one_if (has_arc arcs d)
unfolding IsDistinct
times-distinct d [] h = refl
times-distinct d (a ∷ arcs) h = times-cons d a arcs ∙ split (times-distinct d arcs h.1) (same_arc a d) refl
  where
    split : times d arcs ≡ one_if (has_arc arcs d) → (b : Bool) → same_arc a d ≡ b → one_if b + times d arcs ≡ one_if (b || has_arc arcs d)
    split rest true e =
        let P : Pair → Type 0 = λ x. times x arcs ≡ 0 in
        let none : times d arcs ≡ 0 = subst P (same_arc-true a d e) (times_other a arcs h.0) in
        omega (arith, none)
    split rest false e = omega (arith, rest)
