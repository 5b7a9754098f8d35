-- Places in a list whose members differ.
use Rattle.std.proofs.Common.{◌≡◌, ◌≢◌, ◌⊎◌, ℕ, zero, suc, ◌+◌, ◌-◌, ◌<◌, ◌≤◌, ◌==◌, ltb, Bool, true, false, not, ◌&&◌, List, length, drop, get_or, inl, inr, refl, sym, ◌∙◌, ap, subst, arith}
use Rattle.std.proofs.lemmas.List.{get_or-drop, length-drop}
use Rattle.std.proofs.lemmas.List.Sums.{position_or_len_is, passes_at_first, fails_before_first, prefix_len-le-length}
use Rattle.std.proofs.lemmas.Bool.{cases_lt}
use Rattle.std.proofs.lemmas.Bool.Decides.{nat_tests}
use Rattle.lop_model.specs.Order.{place_of}
use Rattle.lop_profile.specs.Preference.{stands_in, group_of}
use Rattle.lop_profile.specs.Cells.{IsRanking, AreGrouped}

-- the test of equality
same_test : (a b : ℕ) → a ≡ b → (a == b) ≡ true
same_test a b e = grind (arith, nat_tests)

other_test : (a b : ℕ) → a ≢ b → (a == b) ≡ false
other_test a b e = grind (arith, nat_tests)

tested : (a b : ℕ) → (a == b) ≡ true → a ≡ b
tested a b e = grind (arith, nat_tests)

-- what stands at the place of an object is the object
pub at-place_of : (ranked : List ℕ) (j : ℕ) → place_of ranked j < length ranked → get_or ranked (place_of ranked j) 0 ≡ j
at-place_of ranked j within = tested (get_or ranked (place_of ranked j) 0) j (passes_at_first (λ x. x == j) ranked 0 within)

pub place_of-le : (ranked : List ℕ) (j : ℕ) → place_of ranked j ≤ length ranked
place_of-le ranked j = prefix_len-le-length (λ x. not (x == j)) ranked

module _ (n : ℕ) (ranked : List ℕ) (ranking : IsRanking n ranked) where
  -- a member stands at its own place
  pub place_of-at : (q : ℕ) → q < length ranked → place_of ranked (get_or ranked q 0) ≡ q
  place_of-at q within =
      position_or_len_is (λ x. x == get_or ranked q 0) ranked q 0 (omega (arith, within)) (λ k low. other_test (get_or ranked k 0) (get_or ranked q 0) (ranking.distinct k q low within)) (λ _. same_test (get_or ranked q 0) (get_or ranked q 0) refl)

  -- another object has another place
  pub place_of-other : (q j : ℕ) → q < length ranked → j ≢ get_or ranked q 0 → place_of ranked j ≢ q
  place_of-other q j within other = λ same. other (sym (at-place_of ranked j (omega (arith, same, within))) ∙ ap (λ (k : ℕ). get_or ranked k 0) same)

  -- the members behind a place are a ranking too
  pub IsRanking-drop : (m : ℕ) → IsRanking n (drop m ranked)
  IsRanking-drop m = record {
    below = λ p low. rw get_or-drop (ranking.below (m + p) (omega (arith, low, length-drop m ranked)));
    distinct = λ p q before low. rw (get_or-drop m ranked p 0, get_or-drop m ranked q 0) (ranking.distinct (m + p) (m + q) (omega (arith, before)) (omega (arith, low, length-drop m ranked)));
  }

  module _ (p j : ℕ) (within : p < length ranked) where
    later : p < place_of ranked j → stands_in (drop (p + 1) ranked) j ≡ stands_in ranked j
    later after =
        let t = place_of ranked j in
        let long = length-drop (p + 1) ranked in
        let moved : place_of (drop (p + 1) ranked) j ≡ t - (p + 1) =
        position_or_len_is (λ x. x == j) (drop (p + 1) ranked) (t - (p + 1)) 0 (omega (arith, long, place_of-le ranked j))
        (λ k low. ap (λ (x : ℕ). x == j) (get_or-drop (p + 1) ranked k 0) ∙ fails_before_first (λ x. x == j) ranked (p + 1 + k) 0 (omega (arith, low)))
        (λ there. ap (λ (x : ℕ). x == j) (get_or-drop (p + 1) ranked (t - (p + 1)) 0) ∙ at_t t (omega arith) (omega (arith, there, long)))
        in
        same_order (place_of (drop (p + 1) ranked) j) (length (drop (p + 1) ranked)) t (length ranked) after (place_of-le ranked j) moved long
      where
        at_t : (t : ℕ) → (p + 1) + (place_of ranked j - (p + 1)) ≡ place_of ranked j → place_of ranked j < length ranked → (get_or ranked ((p + 1) + (place_of ranked j - (p + 1))) 0 == j) ≡ true
        at_t t e low = ap (λ (k : ℕ). get_or ranked k 0 == j) e ∙ passes_at_first (λ x. x == j) ranked 0 low

        same_order : (a b t l : ℕ) → p < t → t ≤ l → a ≡ t - (p + 1) → b ≡ l - (p + 1) → ltb a b ≡ ltb t l
        same_order a b t l after long e f = grind (arith, nat_tests)

    earlier : place_of ranked j ≤ p → stands_in (drop (p + 1) ranked) j ≡ false
    earlier before =
        let t = place_of ranked j in
        let member = at-place_of ranked j (omega (arith, before, within)) in
        let long = length-drop (p + 1) ranked in
        let gone : place_of (drop (p + 1) ranked) j ≡ length (drop (p + 1) ranked) =
        position_or_len_is (λ x. x == j) (drop (p + 1) ranked) (length (drop (p + 1) ranked)) 0 (omega arith)
        (λ k low. ap (λ (x : ℕ). x == j) (get_or-drop (p + 1) ranked k 0)
        ∙ other_test (get_or ranked (p + 1 + k) 0) j (λ same. ranking.distinct t (p + 1 + k) (omega (arith, before)) (omega (arith, low, long)) (member ∙ sym same)))
        (λ there. absurd (omega (arith, there)))
        in
        not_less (place_of (drop (p + 1) ranked) j) (length (drop (p + 1) ranked)) gone
      where
        not_less : (a b : ℕ) → a ≡ b → ltb a b ≡ false
        not_less a b e = grind (arith, nat_tests)

    -- an object stands behind a place exactly where it stands in the list, and its place is greater
    pub stands_in-drop : stands_in (drop (p + 1) ranked) j ≡ (stands_in ranked j && ltb p (place_of ranked j))
    stands_in-drop = by (cases_lt p (place_of ranked j))
      where
        with_true : (a b : Bool) → b ≡ true → a ≡ (a && b)
        with_true true b e = sym e
        with_true false b e = refl

        with_false : (a b : Bool) → b ≡ false → false ≡ (a && b)
        with_false true b e = sym e
        with_false false b e = refl

        by : (p < place_of ranked j) ⊎ (place_of ranked j ≤ p) → stands_in (drop (p + 1) ranked) j ≡ (stands_in ranked j && ltb p (place_of ranked j))
        by (inl after) = later after ∙ with_true (stands_in ranked j) (ltb p (place_of ranked j)) (grind (arith, nat_tests))
        by (inr before) = earlier before ∙ with_false (stands_in ranked j) (ltb p (place_of ranked j)) (grind (arith, nat_tests))

-- the group of the object at place p ends before this place
pub record IsGroupEnd (groups : List ℕ) (p end : ℕ) : Type 0 where
  pub behind : p < end
  pub within : end ≤ length groups
  pub same : (q : ℕ) → p ≤ q → q < end → get_or groups q 0 ≡ get_or groups p 0
  pub next : end < length groups → get_or groups end 0 ≢ get_or groups p 0

-- an object stands behind the group of a place exactly where it stands in the list, and its group is a later one
pub stands_in-behind : (n : ℕ) (ranked groups : List ℕ) (p end j : ℕ) → IsRanking n ranked → AreGrouped ranked groups → p < length ranked → IsGroupEnd groups p end → stands_in (drop end ranked) j ≡ (stands_in ranked j && ltb (get_or groups p 0) (group_of ranked groups j))
stands_in-behind n ranked groups p end j ranking grouped within of_end =
    ap (λ (e : ℕ). stands_in (drop e ranked) j) (omega (arith, of_end.behind))
    ∙ stands_in-drop n ranked ranking (end - 1) j (omega (arith, of_end.behind, of_end.within, grouped.grouped))
    ∙ by (cases_lt (place_of ranked j) (length ranked))
  where
    outside : (t l : ℕ) (a b : Bool) → l ≤ t → (ltb t l && a) ≡ (ltb t l && b)
    outside t l a b over = grind (arith, nat_tests)

    earlier_group : (q e g h : ℕ) → q ≤ e → h ≤ g → ltb e q ≡ ltb g h
    earlier_group q e g h low less = grind (arith, nat_tests)

    later_group : (q e g h : ℕ) → e < q → g < h → ltb e q ≡ ltb g h
    later_group q e g h high more = grind (arith, nat_tests)

    place : ℕ
    place = place_of ranked j

    tests : place < length ranked → ltb (end - 1) place ≡ ltb (get_or groups p 0) (get_or groups place 0)
    tests inside = elim (cases_lt place end) [
      | inl before ↦ elim (cases_lt place p) [
        | inl under ↦ earlier_group place (end - 1) (get_or groups p 0) (get_or groups place 0) (omega (arith, before)) (grouped.rising place p (omega (arith, under)) (omega (arith, within, grouped.grouped)))
        | inr over ↦ earlier_group place (end - 1) (get_or groups p 0) (get_or groups place 0) (omega (arith, before)) (omega (arith, of_end.same place over before))
      ]
      | inr after ↦
          let low : end < length groups = omega (arith, after, inside, grouped.grouped) in
          later_group place (end - 1) (get_or groups p 0) (get_or groups place 0) (omega (arith, after, of_end.behind))
          (omega (arith, of_end.next low, grouped.rising p end (omega (arith, of_end.behind)) low, grouped.rising end place after (omega (arith, inside, grouped.grouped))))
    ]

    by : (place < length ranked) ⊎ (length ranked ≤ place) → (stands_in ranked j && ltb (end - 1) place) ≡ (stands_in ranked j && ltb (get_or groups p 0) (get_or groups place 0))
    by (inl inside) = ap (λ (t : Bool). stands_in ranked j && t) (tests inside)
    by (inr over) = outside place (length ranked) (ltb (end - 1) place) (ltb (get_or groups p 0) (get_or groups place 0)) over

-- group numbers that are each the one before or the next never fall
pub rising-steps : (groups : List ℕ) → ((p : ℕ) → p + 1 < length groups → get_or groups p 0 ≤ get_or groups (p + 1) 0) → (p k : ℕ) → p + k < length groups → get_or groups p 0 ≤ get_or groups (p + k) 0
rising-steps groups step p zero low = subst (λ (q : ℕ). get_or groups p 0 ≤ get_or groups q 0) {x = p} {y = p + zero} (omega arith) (omega arith)
rising-steps groups step p (suc k) low =
    let more : get_or groups (p + k) 0 ≤ get_or groups (p + k + 1) 0 = step (p + k) (omega (arith, low)) in
    subst (λ (q : ℕ). get_or groups p 0 ≤ get_or groups q 0) {x = p + k + 1} {y = p + suc k} (omega arith) (omega (arith, more, rising-steps groups step p k (omega (arith, low))))

-- they are the groups of what an order ranks
pub AreGrouped-steps : (ranked groups : List ℕ) → length groups ≡ length ranked → ((p : ℕ) → p + 1 < length groups → get_or groups p 0 ≤ get_or groups (p + 1) 0) → AreGrouped ranked groups
AreGrouped-steps ranked groups same step = record {
  grouped = same;
  rising = λ p q before low. subst (λ (k : ℕ). get_or groups p 0 ≤ get_or groups k 0) {x = p + (q - p)} {y = q} (omega (arith, before)) (rising-steps groups step p (q - p) (omega (arith, before, low)));
}
