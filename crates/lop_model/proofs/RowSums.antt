-- Sums over pairs, row by row, and between what their parts stay.
use Rattle.std.proofs.Common.{◌≡◌, ℕ, zero, suc, ◌+◌, ◌<◌, ◌≤◌, true, false, ltb, refl, sym, ◌∙◌, subst, inl, inr, arith, ℤ, pos, neg_ℤ, ◌+ℤ◌, ◌≤ℤ◌}
use Rattle.std.proofs.lemmas.Int.{ints}
use Rattle.std.proofs.lemmas.Bool.{cases_lt}
use Rattle.std.proofs.lemmas.Bool.Decides.{nat_tests}
use Rattle.lop_model.specs.Sums.{sum_below, pair_sum, above}
use Rattle.lop_model.proofs.SumLemmas.{sum_below-none, sum_below-swap, sum_below-square, sum_below-le, sum_below-negate, pair_sum-same}

pub above_is : (f : ℕ → ℕ → ℤ) (a b : ℕ) → a < b → above f a b ≡ f a b
above_is f a b l = let test : ltb a b ≡ true = grind (arith, nat_tests) in rw test refl

pub above_not : (f : ℕ → ℕ → ℤ) (a b : ℕ) → b ≤ a → above f a b ≡ pos 0
above_not f a b l = let test : ltb a b ≡ false = grind (arith, nat_tests) in rw test refl

-- nothing stands above the diagonal in the places up to it
pub row_start : (f : ℕ → ℕ → ℤ) (a : ℕ) → sum_below (a + 1) (above f a) ≡ pos 0
row_start f a = sum_below-none (a + 1) (above f a) (λ b l. above_not f a b (omega arith))

one_way : (x y z : ℤ) → y ≡ x → z ≡ pos 0 → y +ℤ z ≡ x
one_way x y z e f = omega (arith, ints)

-- the sum over all pairs goes row by row
pub pair_sum-rows : (n : ℕ) (f : ℕ → ℕ → ℤ) → sum_below n (λ a. sum_below n (above f a)) ≡ pair_sum n f
pair_sum-rows n f =
    sum_below-swap n n (above f)
    ∙ sum_below-square n (above f) (λ a. above_not f a a (omega arith))
    ∙ pair_sum-same n (λ i j. above f i j +ℤ above f j i) f (λ i j l m. one_way (f i j) (above f i j) (above f j i) (above_is f i j l) (above_not f j i (omega arith)))

-- ---- bounds

-- a part of a sum of numbers from 0 on
sum_part : (n m : ℕ) (g : ℕ → ℤ) → ((k : ℕ) → pos 0 ≤ℤ g k) → m ≤ n → sum_below m g ≤ℤ sum_below n g
sum_part zero m g h l = let none : m ≡ 0 = omega arith in rw none (omega (arith, ints))
sum_part (suc n) m g h l = elim (cases_lt n m) [
  | inl all ↦ let is : m ≡ suc n = omega arith in rw is (omega (arith, ints))
  | inr more ↦ omega (arith, ints, sum_part n m g h more, h n)
]

sum_positive : (n : ℕ) (g : ℕ → ℤ) → ((k : ℕ) → pos 0 ≤ℤ g k) → pos 0 ≤ℤ sum_below n g
sum_positive zero g h = omega (arith, ints)
sum_positive (suc n) g h = omega (arith, ints, sum_positive n g h, h n)

-- one of the numbers from 0 on that are summed
sum_one : (n k : ℕ) (g : ℕ → ℤ) → ((k : ℕ) → pos 0 ≤ℤ g k) → k < n → g k ≤ℤ sum_below n g
sum_one zero k g h l = absurd (omega arith)
sum_one (suc n) k g h l = elim (cases_lt k n) [
  | inl before ↦ omega (arith, ints, sum_one n k g h before, h n)
  | inr last ↦ let is : n ≡ k = omega arith in subst (λ m. g m ≤ℤ (sum_below n g +ℤ g n)) is (omega (arith, ints, sum_positive n g h))
]

-- a number between -g and g
pub record IsBetween (x g : ℤ) : Type 0 where
  pub low : neg_ℤ g ≤ℤ x
  pub high : x ≤ℤ g

above_positive : (g : ℕ → ℕ → ℤ) → ((i j : ℕ) → pos 0 ≤ℤ g i j) → (i j : ℕ) → pos 0 ≤ℤ above g i j
above_positive g h i j = elim (cases_lt i j) [
  | inl l ↦ subst (λ x. pos 0 ≤ℤ x) (sym (above_is g i j l)) (h i j)
  | inr l ↦ subst (λ x. pos 0 ≤ℤ x) (sym (above_not g i j l)) (omega (arith, ints))
]

above_between : (f g : ℕ → ℕ → ℤ) (n i j : ℕ) → ((i j : ℕ) → i < j → j < n → IsBetween (f i j) (g i j)) → j < n → IsBetween (above f i j) (above g i j)
above_between f g n i j h m = elim (cases_lt i j) [
  | inl l ↦ rw (above_is f i j l, above_is g i j l) (h i j l m)
  | inr l ↦ rw (above_not f i j l, above_not g i j l) (record { low = omega (arith, ints); high = omega (arith, ints) })
]

-- a part of a row of f is between the sums of g over all pairs, where each f is between its g
pub row_between : (n m i : ℕ) (f g : ℕ → ℕ → ℤ) → ((i j : ℕ) → pos 0 ≤ℤ g i j) → ((i j : ℕ) → i < j → j < n → IsBetween (f i j) (g i j)) → i < n → m ≤ n → IsBetween (sum_below m (above f i)) (pair_sum n g)
row_between n m i f g positive between l k =
    let rows = λ (a : ℕ). sum_below n (above g a) in
    let each = above_positive g positive in
    let part : sum_below m (above g i) ≤ℤ rows i = sum_part n m (above g i) (each i) k in
    let row : rows i ≤ℤ sum_below n rows = sum_one n i rows (λ a. sum_positive n (above g a) (each a)) l in
    let whole : sum_below n rows ≡ pair_sum n g = pair_sum-rows n g in
    let high : sum_below m (above f i) ≤ℤ sum_below m (above g i) = sum_below-le m (above f i) (above g i) (λ j o. (above_between f g n i j between (omega arith)).high) in
    let low : sum_below m (λ j. neg_ℤ (above g i j)) ≤ℤ sum_below m (above f i) = sum_below-le m (λ j. neg_ℤ (above g i j)) (above f i) (λ j o. (above_between f g n i j between (omega arith)).low) in
    let turned : sum_below m (λ j. neg_ℤ (above g i j)) ≡ neg_ℤ (sum_below m (above g i)) = sum_below-negate m (above g i) in
    record { low = omega (arith, ints); high = omega (arith, ints) }
