-- First answers.
use Rattle.std.proofs.Common.{◌≡◌, ℕ, zero, suc, ◌<◌, List, [], ◌∷◌, ◌++◌, length, get_or, Option, None, Some, refl, sym, ◌∙◌, ap, arith}
use Rattle.std.specs.List.{range_with_len, All}
use Rattle.std.proofs.lemmas.List.FromFn.{get_or-range_with_len, length-range_with_len}
use Rattle.lop_preflib.specs.First.{or_else, first_answer}

pub or_else-none : {A : Type 0} (a : Option A) → or_else a None ≡ a
or_else-none (Some a) = refl
or_else-none None = refl

-- no item has an answer
pub first_answer-none : {X A : Type 0} (f : X → Option A) (xs : List X) → All (λ x. f x ≡ None) xs → first_answer f xs ≡ None
first_answer-none f [] none = refl
first_answer-none f (x ∷ xs) none =
    ap (λ a. or_else a (first_answer f xs)) (none 0 x (omega arith)) ∙ first_answer-none f xs (λ k d within. none (suc k) d (omega (arith, within)))

-- the first item with an answer
pub first_answer-at : {X A : Type 0} (f : X → Option A) (xs : List X) (k : ℕ) (d : X) (a : A) → k < length xs → ((j : ℕ) → j < k → f (get_or xs j d) ≡ None) → f (get_or xs k d) ≡ Some a → first_answer f xs ≡ Some a
first_answer-at f [] k d a within before here = absurd (omega (arith, within))
first_answer-at f (x ∷ xs) zero d a within before here = ap (λ b. or_else b (first_answer f xs)) here
first_answer-at f (x ∷ xs) (suc k) d a within before here =
    ap (λ b. or_else b (first_answer f xs)) (before 0 (omega arith)) ∙ first_answer-at f xs k d a (omega (arith, within)) (λ j low. before (suc j) (omega (arith, low))) here

-- one item more
pub first_answer-push : {X A : Type 0} (f : X → Option A) (xs : List X) (x : X) → first_answer f (xs ++ x ∷ []) ≡ or_else (first_answer f xs) (f x)
first_answer-push f [] x = or_else-none (f x)
first_answer-push f (y ∷ xs) x = ap (or_else (f y)) (first_answer-push f xs x) ∙ regroup (f y) (first_answer f xs) (f x)
  where
    regroup : {A : Type 0} (a b c : Option A) → or_else a (or_else b c) ≡ or_else (or_else a b) c
    regroup (Some a) b c = refl
    regroup None b c = refl

at_place : (n k d : ℕ) → k < n → get_or (range_with_len 0 n) k d ≡ k
at_place n k d below = get_or-range_with_len 0 n k d below ∙ omega arith

-- over the numbers below n
pub first_below-none : {A : Type 0} (f : ℕ → Option A) (n : ℕ) → ((k : ℕ) → k < n → f k ≡ None) → first_answer f (range_with_len 0 n) ≡ None
first_below-none f n none =
    first_answer-none f (range_with_len 0 n) (λ k d within.
    let below : k < n = omega (arith, within, length-range_with_len 0 n) in
    ap f (at_place n k d below) ∙ none k below)

pub first_below-at : {A : Type 0} (f : ℕ → Option A) (n k : ℕ) (a : A) → k < n → ((j : ℕ) → j < k → f j ≡ None) → f k ≡ Some a → first_answer f (range_with_len 0 n) ≡ Some a
first_below-at f n k a within before here =
    first_answer-at f (range_with_len 0 n) k 0 a (omega (arith, within, length-range_with_len 0 n))
    (λ j low. ap f (at_place n j 0 (omega (arith, low, within))) ∙ before j low)
    (ap f (at_place n k 0 within) ∙ here)

-- what it means that no item has an answer
pub first_answer-all : {X A : Type 0} (f : X → Option A) (xs : List X) → first_answer f xs ≡ None → All (λ x. f x ≡ None) xs
first_answer-all {X = X} {A = A} f [] none = λ k d within. absurd (omega (arith, within))
first_answer-all {X = X} {A = A} f (x ∷ xs) none = by (f x) refl none (first_answer-all f xs)
  where
    by : (a : Option A) → f x ≡ a → or_else a (first_answer f xs) ≡ None → (first_answer f xs ≡ None → All (λ y. f y ≡ None) xs) → (k : ℕ) (d : X) → k < length (x ∷ xs) → f (get_or (x ∷ xs) k d) ≡ None
    by (Some a) e none' others k d within = absurd (cc none')
    by None e none' others zero d within = e
    by None e none' others (suc k) d within = others none' k d (omega (arith, within))

pub first_below-all : {A : Type 0} (f : ℕ → Option A) (n : ℕ) → first_answer f (range_with_len 0 n) ≡ None → (k : ℕ) → k < n → f k ≡ None
first_below-all f n none k low =
    ap f (sym (at_place n k 0 low)) ∙ first_answer-all f (range_with_len 0 n) none k 0 (omega (arith, low, length-range_with_len 0 n))
