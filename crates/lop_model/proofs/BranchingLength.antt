-- A branching path has at most one pair for each two objects.
use Rattle.std.proofs.Common.{◌≡◌, ◌≢◌, ℕ, zero, suc, ◌+◌, ◌-◌, ◌*◌, ◌/◌, ◌<◌, ◌≤◌, Bool, true, false, cond, eqb, ltb, ◌&&◌, ◌||◌, List, [], ◌∷◌, length, map, take, get_or, inl, inr, ◌⊎◌, refl, sym, ◌∙◌, ap, subst, arith}
use Rattle.std.specs.Prelude.{IsTrue}
use Rattle.std.specs.List.{list_any}
use Rattle.std.proofs.lemmas.Bool.{cases_lt}
use Rattle.std.proofs.lemmas.Bool.Decides.{nat_tests}
use Rattle.std.proofs.lemmas.List.{get_or-map, length-map}
use Rattle.std.proofs.lemmas.Map.Steps.{length-le_from_distinct_below}
use Rattle.std.proofs.lemmas.Map.Keys.{IsDistinct-from_apart}
use Rattle.std.proofs.Math.Nat.{mul-suc, suc-mul}
use Rattle.lop_model.specs.declared.pair.Pair.{Pair}
use Rattle.lop_model.specs.Fixings.{has_pair, LeadsTo, one_pair, IsUndecided, IsBranchingPath}

-- 0 + 1 + .. + (n - 1)
abbrev triangle : ℕ → ℕ
triangle zero = 0
triangle (suc n) = triangle n + n

square_step : (n : ℕ) → 2 * triangle n ≡ n * (n - 1) → 2 * (triangle n + n) ≡ suc n * n
square_step zero h = refl
square_step (suc k) h =
    let less : suc k - 1 ≡ k = omega arith in
    let old : suc k * (suc k - 1) ≡ suc k * k = ap (λ j. suc k * j) less in
    omega (arith, mul-suc (suc k) k, suc-mul (suc k) (suc k))

twice_triangle : (n : ℕ) → 2 * triangle n ≡ n * (n - 1)
twice_triangle zero = refl
twice_triangle (suc n) = let less : n ≡ suc n - 1 = omega arith in square_step n (twice_triangle n) ∙ ap (λ j. suc n * j) less

triangle-is : (n : ℕ) → triangle n ≡ n * (n - 1) / 2
triangle-is n = omega (arith, twice_triangle n)

triangle-below : (b d : ℕ) → b < d → triangle b + b ≤ triangle d
triangle-below b zero l = absurd (omega arith)
triangle-below b (suc d) l = elim (cases_lt b d) [
  | inl less ↦ omega (arith, triangle-below b d less)
  | inr last ↦ let e : b ≡ d = omega arith in subst (λ k. triangle b + b ≤ triangle k + k) e (omega arith)
]

-- a number for each two objects, in either order
abbrev number : ℕ → ℕ → ℕ
number a b = cond (ltb a b) (triangle b + a) (triangle a + b)

abbrev pair_number : Pair → ℕ
pair_number p = number p.before p.after

lower : (a b x y : ℕ) → a < b → cond (ltb a b) x y ≡ x
lower a b x y l = grind (arith, nat_tests)

upper : (a b x y : ℕ) → b ≤ a → cond (ltb a b) x y ≡ y
upper a b x y l = grind (arith, nat_tests)

number_cases : (a b : ℕ) → a ≢ b → ((a < b) × (number a b ≡ triangle b + a)) ⊎ ((b < a) × (number a b ≡ triangle a + b))
number_cases a b ne = elim (cases_lt a b) [
  | inl less ↦ inl (less, lower a b (triangle b + a) (triangle a + b) less)
  | inr ge ↦ inr (omega (arith, ne), upper a b (triangle b + a) (triangle a + b) ge)
]

-- a number below the triangle of n
number-below : (n a b : ℕ) → a < n → b < n → a ≢ b → number a b < triangle n
number-below n a b l m ne = elim (number_cases a b ne) [
  | inl low ↦ omega (arith, low.0, low.1, triangle-below b n m)
  | inr high ↦ omega (arith, high.0, high.1, triangle-below a n l)
]

same_triangle : (a b c d : ℕ) → a < b → c < d → triangle b + a ≡ triangle d + c → (a ≡ c) × (b ≡ d)
same_triangle a b c d l m e = elim (cases_lt b d) [
  | inl less ↦ absurd (omega (arith, triangle-below b d less))
  | inr ge ↦ elim (cases_lt d b) [
    | inl more ↦ absurd (omega (arith, triangle-below d b more))
    | inr le ↦
        let same : b ≡ d = omega arith in
        let t : triangle b ≡ triangle d = ap triangle same in
        (omega (arith, t), same)
  ]
]

-- two pairs of one number are the same or reversed
number-same : (a b c d : ℕ) → a ≢ b → c ≢ d → number a b ≡ number c d → ((a ≡ c) × (b ≡ d)) ⊎ ((a ≡ d) × (b ≡ c))
number-same a b c d ne nf e = elim (number_cases a b ne) [
  | inl p ↦ elim (number_cases c d nf) [
    | inl q ↦ let s = same_triangle a b c d p.0 q.0 (sym p.1 ∙ (e ∙ q.1)) in inl (s.0, s.1)
    | inr q ↦ let s = same_triangle a b d c p.0 q.0 (sym p.1 ∙ (e ∙ q.1)) in inr (s.0, s.1)
  ]
  | inr p ↦ elim (number_cases c d nf) [
    | inl q ↦ let s = same_triangle b a c d p.0 q.0 (sym p.1 ∙ (e ∙ q.1)) in inr (s.1, s.0)
    | inr q ↦ let s = same_triangle b a d c p.0 q.0 (sym p.1 ∙ (e ∙ q.1)) in inl (s.1, s.0)
  ]
]

itself : (a b : ℕ) (t : Bool) → IsTrue ((eqb a a && eqb b b) || t)
itself a b t = grind (arith, nat_tests)

later : (p t : Bool) → IsTrue t → IsTrue (p || t)
later true t h = refl
later false t h = h

-- a pair of a path is among those before a later one
pub has_pair-take : (path : List Pair) (i j : ℕ) (d : Pair) → i < j → j ≤ length path → IsTrue (has_pair (take j path) (get_or path i d).before (get_or path i d).after)
has_pair-take [] i j d l m = absurd (omega arith)
has_pair-take (p ∷ path) i zero d l m = absurd (omega arith)
has_pair-take (p ∷ path) zero (suc j) d l m = itself p.before p.after (has_pair (take j path) p.before p.after)
has_pair-take (p ∷ path) (suc i) (suc j) d l m =
    later (eqb p.before (get_or path i d).before && eqb p.after (get_or path i d).after) (has_pair (take j path) (get_or path i d).before (get_or path i d).after) (has_pair-take path i j d (omega arith) (omega arith))

other_than : (a b : ℕ) → a ≢ b → eqb a b ≡ false
other_than a b ne = grind (arith, nat_tests)

abbrev no_objects : Pair
no_objects = record { before = 0; after = 0 }

module _ (n : ℕ) (path : List Pair) (branching : IsBranchingPath n path) where
  numbers_apart : (i j : ℕ) → i < j → j < length path → pair_number (get_or path i no_objects) ≢ pair_number (get_or path j no_objects)
  numbers_apart i j l m e =
      let p : Pair = get_or path i no_objects in
      let q : Pair = get_or path j no_objects in
      let u : IsUndecided n (take i path) (get_or path i no_objects).before (get_or path i no_objects).after = branching.each i no_objects (omega arith) in
      let v : IsUndecided n (take j path) (get_or path j no_objects).before (get_or path j no_objects).after = branching.each j no_objects m in
      let before : IsTrue (has_pair (take j path) (get_or path i no_objects).before (get_or path i no_objects).after) = has_pair-take path i j no_objects l (omega arith) in
      elim (number-same (get_or path i no_objects).before (get_or path i no_objects).after (get_or path j no_objects).before (get_or path j no_objects).after u.differ v.differ e) [
        | inl same ↦ v.not_before (subst (λ (a : ℕ). LeadsTo (take j path) a (get_or path j no_objects).after) same.0 (subst (λ (b : ℕ). LeadsTo (take j path) (get_or path i no_objects).before b) same.1 (one_pair before)))
        | inr turned ↦ v.not_after (subst (λ (a : ℕ). LeadsTo (take j path) a (get_or path j no_objects).before) turned.0 (subst (λ (b : ℕ). LeadsTo (take j path) (get_or path i no_objects).before b) turned.1 (one_pair before)))
      ]

  numbers_distinct : (i j d : ℕ) → i < j → j < length (map pair_number path) → eqb (get_or (map pair_number path) i d) (get_or (map pair_number path) j d) ≡ false
  numbers_distinct i j d l m =
      let whole : length (map pair_number path) ≡ length path = length-map path pair_number in
      rw (get_or-map pair_number path i no_objects d (omega arith), get_or-map pair_number path j no_objects d (omega arith))
      (other_than (pair_number (get_or path i no_objects)) (pair_number (get_or path j no_objects)) (numbers_apart i j l (omega arith)))

below_of : (m : ℕ) (xs : List ℕ) → ((i : ℕ) → i < length xs → get_or xs i 0 < m) → (q : ℕ) → list_any (eqb q) xs ≡ true → q < m
below_of m [] h q e = absurd (cc)
below_of m (x ∷ xs) h q e = one_of (h 0 (omega arith)) (below_of m xs (λ i l. h (suc i) (omega arith)) q) (eqb q x) refl e where
  one_of : x < m → (list_any (eqb q) xs ≡ true → q < m) → (b : Bool) → eqb q x ≡ b → (b || list_any (eqb q) xs) ≡ true → q < m
  one_of l rest true t f = let same : q ≡ x = grind (arith, nat_tests) in omega arith
  one_of l rest false t f = rest f

-- a branching path has at most one pair for each two objects
pub length-branching : (n : ℕ) (path : List Pair) → IsBranchingPath n path → length path ≤ n * (n - 1) / 2
length-branching n path branching =
    let whole : length (map pair_number path) ≡ length path = length-map path pair_number in
    let most : length (map pair_number path) ≤ triangle n =
    length-le_from_distinct_below (map pair_number path) (triangle n) (IsDistinct-from_apart eqb (map pair_number path) (numbers_distinct n path branching))
    (below_of (triangle n) (map pair_number path) (λ i l.
    let u : IsUndecided n (take i path) (get_or path i no_objects).before (get_or path i no_objects).after = branching.each i no_objects (omega arith) in
    rw (get_or-map pair_number path i no_objects 0 (omega arith)) (number-below n (get_or path i no_objects).before (get_or path i no_objects).after u.first u.second u.differ))) in
    omega (arith, triangle-is n)
