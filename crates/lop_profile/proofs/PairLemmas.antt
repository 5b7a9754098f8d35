-- Counts, added to the cells of pairs.
use Rattle.std.proofs.Common.{◌≡◌, ◌≢◌, ℕ, ◌+◌, ◌*◌, ◌<◌, ◌≤◌, ltb, Bool, true, false, ◌&&◌, cond, List, length, drop, get_or, inl, inr, sym, ◌∙◌, ap, subst, arith}
use Rattle.std.proofs.lemmas.List.{places}
use Rattle.std.proofs.lemmas.Nat.{row_fits}
use Rattle.std.proofs.lemmas.Bool.{cases_eq, cases_lt}
use Rattle.std.proofs.lemmas.Bool.Decides.{nat_tests}
use Rattle.lop_model.specs.Order.{place_of}
use borrow.Rule.Slice.PartMut.{put_mid}
use Rattle.lop_profile.specs.Preference.{stands_in, group_of, ranks_before}
use Rattle.lop_profile.specs.Cells.{IsRanking, AreGrouped}
use Rattle.lop_profile.proofs.PlaceLemmas.{place_of-at, place_of-other, IsGroupEnd, stands_in-behind}
use Rattle.lop_profile.proofs.CellLemmas.{more_test}

-- the count was added to the cells of the pairs whose first object stands at one of the first p places
abbrev pub ArePairsAdded : List ℕ → List ℕ → ℕ → ℕ → List ℕ → List ℕ → ℕ → Type 0
ArePairsAdded before cells n count ranked groups p =
    (i j : ℕ) → i < n → j < n → get_or cells (i * n + j) 0 ≡ get_or before (i * n + j) 0 + cond (ltb (place_of ranked i) p && ranks_before ranked groups i j) count 0

-- ---- a part of the cells is written

module _ (cells row : List ℕ) (s k n : ℕ) (k_is : k ≡ n) (fits : s + n ≤ length cells) (long : length row ≡ n) where
  cell_in : (j : ℕ) → j < n → get_or (put_mid s k cells row) (s + j) 0 ≡ get_or row j 0
  cell_in j low = grind (arith, places)

  cell_below : (x : ℕ) → x < s → get_or (put_mid s k cells row) x 0 ≡ get_or cells x 0
  cell_below x low = grind (arith, places)

  cell_above : (x : ℕ) → s + n ≤ x → get_or (put_mid s k cells row) x 0 ≡ get_or cells x 0
  cell_above x high = grind (arith, places)

-- ---- one row

-- a row ends before a later one begins
pub row_le : (a n m : ℕ) → a < m → a * n + n ≤ m * n
row_le a n m low = row_fits a n m n low (omega arith)

-- the tests of a pair, where the first object stands at place p
pair_test : (t p l g h : ℕ) (b : Bool) → t ≡ p → p < l → (ltb t (p + 1) && (ltb t l && b && ltb g h)) ≡ (b && ltb g h)
pair_test t p l g h true e low = grind (arith, nat_tests)
pair_test t p l g h false e low = grind (arith, nat_tests)

not_yet : (t p : ℕ) (b : Bool) → t ≡ p → (ltb t p && b) ≡ false
not_yet t p b e = grind (arith, nat_tests)

other_place : (t p : ℕ) (b : Bool) → t ≢ p → (ltb t (p + 1) && b) ≡ (ltb t p && b)
other_place t p b other = ap (λ (c : Bool). c && b) (more_test t p other)

module _ (before cells : List ℕ) (n count : ℕ) (ranked groups : List ℕ) (p : ℕ) (ranking : IsRanking n ranked) (grouped : AreGrouped ranked groups) (within : p < length ranked) (so_far : ArePairsAdded before cells n count ranked groups p) where
  place_is : place_of ranked (get_or ranked p 0) ≡ p
  place_is = place_of-at n ranked ranking p within

  -- the row of this object is as it was
  pub row_before : (j : ℕ) → j < n → get_or cells (get_or ranked p 0 * n + j) 0 ≡ get_or before (get_or ranked p 0 * n + j) 0
  row_before j low =
      let a = get_or ranked p 0 in
      so_far a j (ranking.below p within) low ∙ ap (λ (t : Bool). get_or before (a * n + j) 0 + cond t count 0) (not_yet (place_of ranked a) p (ranks_before ranked groups a j) place_is) ∙ omega arith

  module _ (k end : ℕ) (row later : List ℕ) (k_is : k ≡ n) (square : length cells ≡ n * n) (long : length row ≡ n) (later_is : later ≡ drop end ranked) (of_end : IsGroupEnd groups p end)
      (step : (j : ℕ) → j < n → get_or row j 0 ≡ get_or cells (get_or ranked p 0 * n + j) 0 + cond (stands_in later j) count 0) where
    fits : get_or ranked p 0 * n + n ≤ length cells
    fits = omega (arith, square, row_le (get_or ranked p 0) n n (ranking.below p within))

    here : (j : ℕ) → j < n → get_or (put_mid (get_or ranked p 0 * n) k cells row) (get_or ranked p 0 * n + j) 0 ≡ get_or before (get_or ranked p 0 * n + j) 0 + cond (ltb (place_of ranked (get_or ranked p 0)) (p + 1) && ranks_before ranked groups (get_or ranked p 0) j) count 0
    here j low =
        let a = get_or ranked p 0 in
        let test : stands_in later j ≡ (ltb (place_of ranked a) (p + 1) && ranks_before ranked groups a j) =
        ap (λ (l : List ℕ). stands_in l j) later_is ∙ stands_in-behind n ranked groups p end j ranking grouped within of_end
        ∙ ap (λ (q : ℕ). stands_in ranked j && ltb (get_or groups q 0) (group_of ranked groups j)) (sym place_is)
        ∙ sym (pair_test (place_of ranked a) p (length ranked) (group_of ranked groups a) (group_of ranked groups j) (stands_in ranked j) place_is within)
        in
        cell_in cells row (a * n) k n k_is fits long j low ∙ step j low
        ∙ ap (λ (v : ℕ). v + cond (stands_in later j) count 0) (row_before j low)
        ∙ ap (λ (t : Bool). get_or before (a * n + j) 0 + cond t count 0) test

    elsewhere : (i j : ℕ) → i ≢ get_or ranked p 0 → j < n → get_or (put_mid (get_or ranked p 0 * n) k cells row) (i * n + j) 0 ≡ get_or cells (i * n + j) 0
    elsewhere i j other low =
        let a = get_or ranked p 0 in
        elim (cases_lt i a) [
          | inl under ↦ cell_below cells row (a * n) k n k_is fits long (i * n + j) (omega (arith, low, row_le i n a under))
          | inr over ↦ cell_above cells row (a * n) k n k_is fits long (i * n + j) (omega (arith, row_le a n i (omega (arith, over, other))))
        ]

    -- one object more
    pub pairs_added-more : ArePairsAdded before (put_mid (get_or ranked p 0 * n) k cells row) n count ranked groups (p + 1)
    pairs_added-more = λ i j under low.
        elim (cases_eq i (get_or ranked p 0)) [
          | inl same ↦ subst (λ (a : ℕ). get_or (put_mid (get_or ranked p 0 * n) k cells row) (a * n + j) 0 ≡ get_or before (a * n + j) 0 + cond (ltb (place_of ranked a) (p + 1) && ranks_before ranked groups a j) count 0) (sym same) (here j low)
          | inr other ↦
              elsewhere i j other low ∙ so_far i j under low
              ∙ sym (ap (λ (t : Bool). get_or before (i * n + j) 0 + cond t count 0) (other_place (place_of ranked i) p (ranks_before ranked groups i j) (place_of-other n ranked ranking p i within other)))
        ]
