-- Weights of orders, and bounds on them.
use Rattle.std.proofs.Common.{◌≢◌, sym, ◌≤◌, ◌+ℤ◌, ◌-ℤ◌, ◌⊎◌, eqb, ◌&&◌, inl, inr, arith, ◌≡◌, ℕ, ◌+◌, ◌<◌, Bool, true, false, cond, List, [], length, get_or, take, drop, get_or-take, get_or-drop, mul-le-mul_right, length-take, length-drop, min, ◌-◌, ◌*◌, ℤ, pos, negsuc, ◌≤ℤ◌, neg_ℤ, refl, ◌∙◌, ap}
use Rattle.std.specs.Prelude.{unsigned_abs}
use Rattle.std.proofs.lemmas.Int.{ints}
use Rattle.std.proofs.lemmas.List.FromFn.{get_or-map-range_with_len, length-map-range_with_len}
use Rattle.std.proofs.lemmas.Bool.{cases_lt}
use Rattle.std.proofs.lemmas.Bool.Decides.{nat_tests}
use Rattle.lop_model.specs.Sums.{sum_below, pair_sum}
use Rattle.lop_model.specs.Order.{IsOrder, stands_before}
use Rattle.lop_model.specs.Matrix.{Matrix, placed_entry, matrix_of, AreWeights, IsWeights, entry, margin, pair_absolute, absolute_total, weight}
use Rattle.lop_model.proofs.SumLemmas.{sum_below-same, sum_below_more, sum_below-turned, pair_sum-le, pair_sum-none, pair_sum-one, pair_sum-negate}
use Rattle.lop_model.proofs.OrderLemmas.{pair_sum-order}

-- the weight of an order, pair by pair
pub weight-pairs : (C : Matrix) (s : List ℕ) → IsOrder C.size s → weight C s ≡ pair_sum C.size (λ i j. cond (stands_before s i j) (entry C i j) (entry C j i))
weight-pairs C s o =
    ap (λ n. pair_sum n (λ p q. entry C (get_or s p 0) (get_or s q 0))) o.complete
    ∙ pair_sum-order C.size s (entry C) o

-- a number lies within its absolute value
pub unsigned_abs_bounds : (x : ℤ) → (x ≤ℤ pos (unsigned_abs x)) × (neg_ℤ (pos (unsigned_abs x)) ≤ℤ x)
unsigned_abs_bounds (pos n) = (omega (arith, ints), omega (arith, ints))
unsigned_abs_bounds (negsuc n) = (omega (arith, ints), omega (arith, ints))

-- each of two numbers is within the sum of their absolute values
pub one_within : (b : Bool) (x y : ℤ) → (cond b x y ≤ℤ pos (unsigned_abs x + unsigned_abs y)) × (neg_ℤ (pos (unsigned_abs x + unsigned_abs y)) ≤ℤ cond b x y)
one_within true x y = (omega (arith, ints, unsigned_abs_bounds x), omega (arith, ints, unsigned_abs_bounds x))
one_within false x y = (omega (arith, ints, unsigned_abs_bounds y), omega (arith, ints, unsigned_abs_bounds y))

-- a choice of one of the two entries of each pair sums to a number within the absolute sum
pub choice_within : (C : Matrix) (b : ℕ → ℕ → Bool) → (pair_sum C.size (λ i j. cond (b i j) (entry C i j) (entry C j i)) ≤ℤ absolute_total C) × (neg_ℤ (absolute_total C) ≤ℤ pair_sum C.size (λ i j. cond (b i j) (entry C i j) (entry C j i)))
choice_within C b =
    let f : ℕ → ℕ → ℤ = λ i j. cond (b i j) (entry C i j) (entry C j i) in
    let g : ℕ → ℕ → ℤ = λ i j. pos (unsigned_abs (entry C i j) + unsigned_abs (entry C j i)) in (
      pair_sum-le C.size f g (λ i j _ _. (one_within (b i j) (entry C i j) (entry C j i)).0),
      rw (← pair_sum-negate C.size g) (pair_sum-le C.size (λ i j. neg_ℤ (g i j)) f (λ i j _ _. (one_within (b i j) (entry C i j) (entry C j i)).1)),
    )

-- the weight of an order is within the absolute sum
pub weight_within : (C : Matrix) (s : List ℕ) → IsOrder C.size s → (weight C s ≤ℤ absolute_total C) × (neg_ℤ (absolute_total C) ≤ℤ weight C s)
weight_within C s o = rw (weight-pairs C s o) (choice_within C (stands_before s))

-- ---- what a pair of objects gains

picks_pair : (x : ℤ) (i j a b : ℕ) → pos 0 ≤ℤ x → cond (eqb i a && eqb j b) x (pos 0) ≤ℤ x
picks_pair x i j a b positive = grind (arith, ints, nat_tests)

picks_no_pair : (x : ℤ) (i j a b : ℕ) → (i ≢ a) ⊎ (j ≢ b) → cond (eqb i a && eqb j b) x (pos 0) ≡ pos 0
picks_no_pair x i j a b (inl ne) = grind (arith, nat_tests)
picks_no_pair x i j a b (inr ne) = grind (arith, nat_tests)

picks_this_pair : (x : ℤ) (a b : ℕ) → cond (eqb a a && eqb b b) x (pos 0) ≡ x
picks_this_pair x a b = grind (arith, nat_tests)

-- the absolute values of one pair are within the sum of all
pub pair_absolute-le : (C : Matrix) (a b : ℕ) → a < b → b < C.size → pair_absolute C a b ≤ℤ absolute_total C
pair_absolute-le C a b l m =
    let f : ℕ → ℕ → ℤ = λ i j. cond (eqb i a && eqb j b) (pair_absolute C i j) (pos 0) in
    let one : pair_sum C.size f ≡ f a b = pair_sum-one C.size a b f l m (λ i j _ _ ne. picks_no_pair (pair_absolute C i j) i j a b ne) in
    let this : f a b ≡ pair_absolute C a b = picks_this_pair (pair_absolute C a b) a b in
    let all : pair_sum C.size f ≤ℤ absolute_total C = pair_sum-le C.size f (pair_absolute C) (λ i j _ _. picks_pair (pair_absolute C i j) i j a b (omega (arith, ints))) in
    omega (arith, ints)

-- the sum of all is no less than 0
pub absolute_total-positive : (C : Matrix) → pos 0 ≤ℤ absolute_total C
absolute_total-positive C =
    let none : pair_sum C.size (λ _ _. pos 0) ≡ pos 0 = pair_sum-none C.size (λ _ _. pos 0) (λ _ _ _ _. refl) in
    let le : pair_sum C.size (λ _ _. pos 0) ≤ℤ absolute_total C = pair_sum-le C.size (λ _ _. pos 0) (pair_absolute C) (λ i j _ _. omega (arith, ints)) in
    omega (arith, ints)

difference_within : (x y : ℤ) → ((x -ℤ y) ≤ℤ pos (unsigned_abs x + unsigned_abs y)) × (neg_ℤ (pos (unsigned_abs x + unsigned_abs y)) ≤ℤ (x -ℤ y))
difference_within x y = (omega (arith, ints, unsigned_abs_bounds x, unsigned_abs_bounds y), omega (arith, ints, unsigned_abs_bounds x, unsigned_abs_bounds y))

-- what two objects gain one way or the other is within it too
pub margin_within : (C : Matrix) (a b : ℕ) → a < C.size → b < C.size → (margin C a b ≤ℤ absolute_total C) × (neg_ℤ (absolute_total C) ≤ℤ margin C a b)
margin_within C a b l m =
    let x = entry C a b in
    let y = entry C b a in
    let within = difference_within x y in
    let positive = absolute_total-positive C in
    elim (cases_lt a b) [
      | inl before ↦ let le : pos (unsigned_abs x + unsigned_abs y) ≤ℤ absolute_total C = pair_absolute-le C a b before m in (omega (arith, ints), omega (arith, ints))
      | inr from ↦ elim (cases_lt b a) [
        | inl after ↦ let le : pos (unsigned_abs y + unsigned_abs x) ≤ℤ absolute_total C = pair_absolute-le C b a after l in (omega (arith, ints), omega (arith, ints))
        | inr to ↦ let e : a ≡ b = omega arith in let same : x ≡ y = ap (λ k. entry C a k) (sym e) ∙ ap (λ k. entry C k a) e in (omega (arith, ints), omega (arith, ints))
      ]
    ]

-- ---- the rows of one flat list

pub entry-matrix_of : (n : ℕ) (es : List ℤ) (i j : ℕ) → i < n → j < n → entry (matrix_of n es) i j ≡ get_or es (i * n + j) (pos 0)
entry-matrix_of n es i j l m =
    ap (λ row. get_or row j (pos 0)) (get_or-map-range_with_len (λ k. take n (drop (k * n) es)) 0 n i i [] l (omega arith))
    ∙ rw (get_or-take, get_or-drop) refl

row_length : (i n k : ℕ) → i < n → k ≡ n * n → min n (k - i * n) ≡ n
row_length i n k l e = omega (arith, mul-le-mul_right n l)

pub IsWeights-matrix_of : (n : ℕ) (es : List ℤ) → AreWeights n es → IsWeights (matrix_of n es)
IsWeights-matrix_of n es w = record {
  positive = w.shaped.positive;
  within_limit = w.shaped.within_limit;
  rows = length-map-range_with_len (λ i. take n (drop (i * n) es)) 0 n;
  columns = λ i l.
      let square : length es ≡ n * n = w.shaped.square in
      rw (get_or-map-range_with_len (λ k. take n (drop (k * n) es)) 0 n i i [] l (omega arith), length-take, length-drop) (row_length i n (length es) l square);
  bounded_sum = w.bounded_sum;
}

same_entry : (C : Matrix) {a b c d : ℕ} → a ≡ c → b ≡ d → entry C a b ≡ entry C c d
same_entry C e f = cc

with_zero : (z : ℤ) → z +ℤ pos 0 ≡ z
with_zero z = omega (arith, ints)

without_zero : (a b : ℤ) → a +ℤ pos 0 ≡ b +ℤ pos 0 → a ≡ b
without_zero a b e = omega (arith, ints)

-- ---- two neighbours of an order turned round

pub record IsTurned (s t : List ℕ) (p : ℕ) : Type 0 where
  pub same_length : length t ≡ length s
  pub first : get_or t p 0 ≡ get_or s (p + 1) 0
  pub second : get_or t (p + 1) 0 ≡ get_or s p 0
  pub others : (k : ℕ) → k ≢ p → k ≢ p + 1 → get_or t k 0 ≡ get_or s k 0

-- the weight changes by the two entries of the two objects
pub weight-turned : (C : Matrix) (s t : List ℕ) (p : ℕ) → p + 1 < length s → IsTurned s t p → weight C t +ℤ entry C (get_or s p 0) (get_or s (p + 1) 0) ≡ weight C s +ℤ entry C (get_or s (p + 1) 0) (get_or s p 0)
weight-turned C s t p l turned =
    let x = entry C (get_or s (p + 1) 0) (get_or s p 0) in
    let y = entry C (get_or s p 0) (get_or s (p + 1) 0) in
    let f : ℕ → ℤ = λ j. sum_below j (λ i. placed_entry C s i j) in
    let g : ℕ → ℤ = λ j. sum_below j (λ i. placed_entry C t i j) in
    let early : (j a b : ℕ) → j ≤ p → get_or t a 0 ≡ get_or s b 0 → sum_below j (λ i. placed_entry C t i a) ≡ sum_below j (λ i. placed_entry C s i b) =
    λ j a b m e. sum_below-same j (λ i. placed_entry C t i a) (λ i. placed_entry C s i b) (λ i k. same_entry C (turned.others i (omega arith) (omega arith)) e) in
    let later : (k : ℕ) → p + 1 ≤ k → k ≢ p → k ≢ p + 1 → g k ≡ f k = λ k m ne other.
    let same = turned.others k ne other in
    without_zero (sum_below k (λ i. placed_entry C t i k)) (sum_below k (λ i. placed_entry C s i k))
    (sum_below-turned k p (λ i. placed_entry C s i k) (λ i. placed_entry C t i k) (pos 0) (pos 0) (omega arith)
    (with_zero (placed_entry C t p k) ∙ same_entry C turned.first same)
    (same_entry C turned.second same ∙ sym (with_zero (placed_entry C s p k)))
    (λ i _ a b. same_entry C (turned.others i a b) same)) in
    let first : g p +ℤ y ≡ f (p + 1) = ap (λ z. z +ℤ y) (early p p (p + 1) (omega arith) turned.first) ∙ sym (sum_below_more p (λ i. placed_entry C s i (p + 1))) in
    let second : g (p + 1) ≡ f p +ℤ x =
    sum_below_more p (λ i. placed_entry C t i (p + 1))
    ∙ ap (λ z. z +ℤ placed_entry C t p (p + 1)) (early p (p + 1) p (omega arith) turned.second)
    ∙ ap (λ z. f p +ℤ z) (same_entry C turned.first turned.second) in
    ap (λ n. pair_sum n (placed_entry C t) +ℤ y) turned.same_length
    ∙ sum_below-turned (length s) p f g x y l first second (λ k m ne other. elim (cases_lt k p) [
      | inl before ↦ early k k k (omega arith) (turned.others k ne other)
      | inr after ↦ later k (omega arith) ne other
    ])
