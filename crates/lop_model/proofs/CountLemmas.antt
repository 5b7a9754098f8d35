-- How many numbers pass a test.
use Rattle.std.proofs.Common.{◌≡◌, ℕ, zero, suc, ◌+◌, ◌<◌, ◌≤◌, Bool, true, false, cond, refl, ◌∙◌, ap, subst, inl, inr, add-one, arith}
use Rattle.std.proofs.lemmas.Bool.{cases_eq}
use Rattle.lop_model.specs.Sums.{count_below}

test_most : (p : Bool) → cond p 1 0 ≤ 1
test_most true = omega arith
test_most false = omega arith

test_le : (p q : Bool) → (p ≡ true → q ≡ true) → cond p 1 0 ≤ cond q 1 0
test_le true q h = rw (h refl) (omega arith)
test_le false q h = omega arith

test_lt : (p q : Bool) → p ≡ false → q ≡ true → cond p 1 0 < cond q 1 0
test_lt p q e f = rw (e, f) (omega arith)

pub count_below_more : (n : ℕ) (f : ℕ → Bool) → count_below (n + 1) f ≡ count_below n f + cond (f n) 1 0
count_below_more n f = rw (add-one n) refl

pub count_below-most : (n : ℕ) (f : ℕ → Bool) → count_below n f ≤ n
count_below-most zero f = omega arith
count_below-most (suc n) f = omega (arith, count_below-most n f, test_most (f n))

pub count_below-same : (n : ℕ) (f g : ℕ → Bool) → ((k : ℕ) → k < n → f k ≡ g k) → count_below n f ≡ count_below n g
count_below-same zero f g h = refl
count_below-same (suc n) f g h =
    let rest = count_below-same n f g (λ k l. h k (omega arith)) in
    let last : cond (f n) 1 0 ≡ cond (g n) 1 0 = ap {B = ℕ} (λ b. cond b 1 0) (h n (omega arith)) in
    omega (arith, rest, last)

-- what passes f passes g
pub count_below-le : (n : ℕ) (f g : ℕ → Bool) → ((k : ℕ) → k < n → f k ≡ true → g k ≡ true) → count_below n f ≤ count_below n g
count_below-le zero f g h = omega arith
count_below-le (suc n) f g h =
    let rest = count_below-le n f g (λ k l. h k (omega arith)) in
    let last = test_le (f n) (g n) (h n (omega arith)) in
    omega (arith, rest, last)

-- and one number passes g alone
pub count_below-lt : (n j : ℕ) (f g : ℕ → Bool) → ((k : ℕ) → k < n → f k ≡ true → g k ≡ true) → j < n → f j ≡ false → g j ≡ true → count_below n f < count_below n g
count_below-lt zero j f g h l e t = absurd (omega arith)
count_below-lt (suc n) j f g h l e t = elim (cases_eq j n) [
  | inl same ↦
      let rest = count_below-le n f g (λ k m. h k (omega arith)) in
      let last = test_lt (f n) (g n) (subst (λ z. f z ≡ false) same e) (subst (λ z. g z ≡ true) same t) in
      omega (arith, rest, last)
  | inr other ↦
      let rest = count_below-lt n j f g (λ k m. h k (omega arith)) (omega arith) e t in
      let last = test_le (f n) (g n) (h n (omega arith)) in
      omega (arith, rest, last)
]

-- the first m numbers, and the n behind them
pub count_below-add : (m n : ℕ) (f : ℕ → Bool) → count_below (m + n) f ≡ count_below m f + count_below n (λ k. f (m + k))
count_below-add m zero f = let none : m + 0 ≡ m = omega arith in ap (λ k. count_below k f) none ∙ omega arith
count_below-add m (suc n) f =
    let more : m + suc n ≡ suc (m + n) = omega arith in
    let step : count_below (suc (m + n)) f ≡ count_below m f + count_below (suc n) (λ k. f (m + k)) = omega (arith, count_below-add m n f) in
    ap (λ k. count_below k f) more ∙ step
