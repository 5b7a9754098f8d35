-- Counts, added to cells.
use Rattle.std.proofs.Common.{◌≡◌, ◌≢◌, ℕ, ◌+◌, ◌<◌, ltb, Bool, true, false, cond, List, length, get_or, set, inl, inr, sym, ◌∙◌, ap, subst, arith, get_or-set_same, get_or-set_other}
use Rattle.std.proofs.lemmas.List.{length-set}
use Rattle.std.proofs.lemmas.Bool.{cases_eq}
use Rattle.std.proofs.lemmas.Bool.Decides.{nat_tests}
use Rattle.lop_model.specs.Order.{place_of}
use Rattle.lop_profile.specs.Cells.{IsRanking}
use Rattle.lop_profile.proofs.PlaceLemmas.{place_of-at, place_of-other}

-- the count was added at the first q places
abbrev pub IsAdded : List ℕ → List ℕ → ℕ → List ℕ → ℕ → Type 0
IsAdded before row count places q = (j : ℕ) → j < length row → get_or row j 0 ≡ get_or before j 0 + cond (ltb (place_of places j) q) count 0

pub more_test : (t q : ℕ) → t ≢ q → ltb t (q + 1) ≡ ltb t q
more_test t q other = grind (arith, nat_tests)

same_place : (t q : ℕ) → t ≡ q → (ltb t q ≡ false) × (ltb t (q + 1) ≡ true)
same_place t q e = (grind (arith, nat_tests), grind (arith, nat_tests))

module _ (before row : List ℕ) (count : ℕ) (places : List ℕ) (q : ℕ) (ranking : IsRanking (length row) places) (within : q < length places) (so_far : IsAdded before row count places q) where
  -- the cell at this place is as it was
  pub cell_before : get_or row (get_or places q 0) 0 ≡ get_or before (get_or places q 0) 0
  cell_before =
      let b = get_or places q 0 in
      let fresh = (same_place (place_of places b) q (place_of-at (length row) places ranking q within)).0 in
      so_far b (ranking.below q within) ∙ ap (λ (t : Bool). get_or before b 0 + cond t count 0) fresh ∙ omega arith

  -- one place more
  pub is_added-more : (after : List ℕ) → after ≡ set row (get_or places q 0) (get_or row (get_or places q 0) 0 + count) → IsAdded before after count places (q + 1)
  is_added-more after is = λ j low.
      let b = get_or places q 0 in
      let value = get_or row b 0 + count in
      let small : j < length row = omega (arith, low, ap length is, length-set row b value) in
      let here : get_or (set row b value) b 0 ≡ get_or before b 0 + cond (ltb (place_of places b) (q + 1)) count 0 =
      get_or-set_same row b value 0 (ranking.below q within) ∙ ap (λ (v : ℕ). v + count) cell_before
      ∙ sym (ap (λ (t : Bool). get_or before b 0 + cond t count 0) (same_place (place_of places b) q (place_of-at (length row) places ranking q within)).1)
      in
      ap (λ (l : List ℕ). get_or l j 0) is
      ∙ elim (cases_eq j b) as (λ _. get_or (set row b value) j 0 ≡ get_or before j 0 + cond (ltb (place_of places j) (q + 1)) count 0) [
        | inl same ↦ subst (λ (i : ℕ). get_or (set row b value) i 0 ≡ get_or before i 0 + cond (ltb (place_of places i) (q + 1)) count 0) (sym same) here
        | inr other ↦
            get_or-set_other row b j value 0 other ∙ so_far j small
            ∙ sym (ap (λ (t : Bool). get_or before j 0 + cond t count 0) (more_test (place_of places j) q (place_of-other (length row) places ranking q j within other)))
      ]
