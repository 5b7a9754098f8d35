-- Small entries are weights.
use Rattle.std.proofs.Common.{◌≡◌, ℕ, zero, suc, ◌+◌, ◌*◌, ◌%◌, ◌^◌, ◌<◌, ◌≤◌, Bool, true, false, ◌==◌, cond, List, [], get_or, unsigned_abs, ℤ, pos, ◌+ℤ◌, ◌≤ℤ◌, zero-add, sym, ◌∙◌, ap, arith, nat_abs, negsuc, refl}
use Rattle.std.proofs.lemmas.Int.{ints}
use Rattle.std.proofs.lemmas.List.FromFn.{get_or-map-range_with_len}
use Rattle.std.proofs.Math.Nat.{suc-mul}
use Rattle.lop_model.specs.Sums.{sum_below, pair_sum}
use Rattle.lop_model.specs.Matrix.{matrix_of, entry, pair_absolute, absolute_total, IsShaped}
use Rattle.lop_model.specs.WeightsFault.{IsFault}
use Rattle.lop_model.specs.declared.weights.WeightsFault.{WeightsFault}
use Rattle.lop_model.specs.declared.weights.WeightsFault.TheVariants.{Size, TooHeavy}
use Rattle.lop_model.proofs.SumLemmas.{sum_below-le}
use Rattle.lop_gen.specs.Generated.{word_at, entries_before, generated_entry, generated_row, generated_matrix}
use Rattle.lop_gen.specs.Text.{HasNarrowDiagonal}

sum_below-constant : (n c : ℕ) → sum_below n (λ _. pos c) ≡ pos (n * c)
sum_below-constant zero c = let none : 0 ≡ zero * c = omega arith in ap pos none
sum_below-constant (suc n) c = let sum : n * c + c ≡ suc n * c = sym (suc-mul n c) in ap (λ (x : ℤ). x +ℤ pos c) (sum_below-constant n c) ∙ ap pos sum

-- a pair sum of small terms
pair_sum-small : (n : ℕ) (f : ℕ → ℕ → ℤ) → n ≤ 512 → ((i j : ℕ) → i < j → j < n → f i j ≤ℤ pos 1998) → pair_sum n f ≤ℤ pos (10 ^ 18)
pair_sum-small n f small each =
    let column : (j : ℕ) → j < n → sum_below j (λ i. f i j) ≤ℤ pos 1022976 =
    λ j below. let terms = sum_below-le j (λ i. f i j) (λ _. pos 1998) (λ i inside. each i j inside below) in omega (arith, ints, terms, sum_below-constant j 1998) in
    let all = sum_below-le n (λ j. sum_below j (λ i. f i j)) (λ _. pos 1022976) column in
    omega (arith, ints, all, sum_below-constant n 1022976)

pub entry-generated : (seed n i j : ℕ) → i < n → j < n → entry (generated_matrix seed n) i j ≡ generated_entry seed n i j
entry-generated seed n i j row column =
    ap (λ (r : List ℤ). get_or r j (pos 0)) (get_or-map-range_with_len (λ k. generated_row seed n k) 0 n i i [] row (zero-add i))
    ∙ get_or-map-range_with_len (λ k. generated_entry seed n i k) 0 n j j (pos 0) column (zero-add j)

small_entry : (seed n i j : ℕ) → unsigned_abs (generated_entry seed n i j) ≤ 999
small_entry seed n i j = by (i == j)
  where
    by : (t : Bool) → unsigned_abs (cond t (pos 0) (pos (word_at seed (entries_before n i j) % 1000))) ≤ 999
    by true = omega arith
    by false = omega arith

pub generated-light : (seed n : ℕ) → n ≤ 512 → absolute_total (generated_matrix seed n) ≤ℤ pos (10 ^ 18)
generated-light seed n small = pair_sum-small n (pair_absolute (generated_matrix seed n)) small each
  where
    within : (i j : ℕ) → i < n → j < n → unsigned_abs (entry (generated_matrix seed n) i j) ≤ 999
    within i j row column = omega (arith, ap unsigned_abs (entry-generated seed n i j row column), small_entry seed n i j)

    each : (i j : ℕ) → i < j → j < n → pair_absolute (generated_matrix seed n) i j ≤ℤ pos 1998
    each i j less below =
        let first = within i j (omega arith) below in
        let second = within j i below (omega arith) in
        omega (arith, ints, first, second)

-- shaped entries of a small sum are refused for no reason
pub no_fault : (n : ℕ) (es : List ℤ) (e : WeightsFault) → IsShaped n es → absolute_total (matrix_of n es) ≤ℤ pos (10 ^ 18) → IsFault n es e → ⊥
no_fault n es Size shaped light fault = fault shaped
no_fault n es (TooHeavy sum) shaped light fault = omega (arith, ints, fault.1, fault.2)

pub generated-narrow : (seed n : ℕ) → HasNarrowDiagonal (generated_matrix seed n)
generated-narrow seed n = record { each = λ i below. omega (arith, small_entry seed n i i, ap unsigned_abs (entry-generated seed n i i below below), same_abs (entry (generated_matrix seed n) i i)) }
  where
    same_abs : (z : ℤ) → unsigned_abs z ≡ nat_abs z
    same_abs (pos k) = refl
    same_abs (negsuc k) = refl
