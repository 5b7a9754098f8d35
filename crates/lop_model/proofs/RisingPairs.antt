-- The list of the pairs that are related rises.
use Rattle.std.proofs.Common.{◌≡◌, ℕ, zero, suc, ◌+◌, ◌≤◌, Bool, true, false, cond, List, [], ◌∷◌, ◌++◌, map, refl, sym, inl, inr, arith}
use Rattle.std.specs.List.{All, AllPairs, range_with_len, filter, flat_map}
use Rattle.std.proofs.lemmas.List.Elements.{All-nil, All-cons, All-append}
use Rattle.lop_model.specs.declared.pair.Pair.{Pair}
use Rattle.lop_model.specs.Fixings.{ComesBefore}
use Rattle.lop_model.specs.Related.{pair, pairs_of}

AllPairs-nil : {X : Type 0} (R : X → X → Type 0) → AllPairs R []
AllPairs-nil R i j d l m = absurd (omega arith)

AllPairs-cons : {X : Type 0} (R : X → X → Type 0) (x : X) (xs : List X) → All (R x) xs → AllPairs R xs → AllPairs R (x ∷ xs)
AllPairs-cons R x xs h rest i zero d l m = absurd (omega arith)
AllPairs-cons R x xs h rest zero (suc j) d l m = h j d (omega arith)
AllPairs-cons R x xs h rest (suc i) (suc j) d l m = rest i j d (omega arith) (omega arith)

-- two lists of which each element of the one is related to each of the other
AllPairs-append : {X : Type 0} (R : X → X → Type 0) (P Q : X → Type 0) → ((x y : X) → P x → Q y → R x y) → (xs ys : List X) → All P xs → All Q ys → AllPairs R xs → AllPairs R ys → AllPairs R (xs ++ ys)
AllPairs-append R P Q cross [] ys p q r s = s
AllPairs-append R P Q cross (x ∷ xs) ys p q r s =
    AllPairs-cons R x (xs ++ ys)
    (All-append (R x) xs ys (λ k d l. r zero (suc k) d (omega arith) (omega arith)) (λ k d l. cross x _ (p zero x (omega arith)) (q k d l)))
    (AllPairs-append R P Q cross xs ys (λ k d l. p (suc k) d (omega arith)) q (λ i j d l m. r (suc i) (suc j) d (omega arith) (omega arith)) s)

-- ---- a row: one first object, and second objects from c on
abbrev InRow : ℕ → ℕ → Pair → Type 0
InRow a c p = (p.before ≡ a) × (c ≤ p.after)

row_more : (b : Bool) (a c : ℕ) (xs : List ℕ) → All (InRow a (c + 1)) (map (pair a) xs) → AllPairs ComesBefore (map (pair a) xs) → All (InRow a c) (map (pair a) (cond b (c ∷ xs) xs)) × AllPairs ComesBefore (map (pair a) (cond b (c ∷ xs) xs))
row_more true a c xs h r = (
  All-cons (InRow a c) (pair a c) (map (pair a) xs) (refl, omega arith) (λ k d l. let e = h k d l in (e.0, omega arith)),
  AllPairs-cons ComesBefore (pair a c) (map (pair a) xs) (λ k d l. let e = h k d l in inr (sym e.0, omega arith)) r,
)
row_more false a c xs h r = (λ k d l. let e = h k d l in (e.0, omega arith), r)

rising_row : (r : ℕ → Bool) (a c k : ℕ) → All (InRow a c) (map (pair a) (filter r (range_with_len c k))) × AllPairs ComesBefore (map (pair a) (filter r (range_with_len c k)))
rising_row r a c zero = (All-nil (InRow a c), AllPairs-nil ComesBefore)
rising_row r a c (suc k) = let rest = rising_row r a (c + 1) k in row_more (r c) a c (filter r (range_with_len (c + 1) k)) rest.0 rest.1

-- ---- the rows from c on
rising_rows : (r : ℕ → ℕ → Bool) (n c k : ℕ) → All (λ p. c ≤ p.before) (flat_map (λ a. map (pair a) (filter (r a) (range_with_len 0 n))) (range_with_len c k)) × AllPairs ComesBefore (flat_map (λ a. map (pair a) (filter (r a) (range_with_len 0 n))) (range_with_len c k))
rising_rows r n c zero = (All-nil (λ p. c ≤ p.before), AllPairs-nil ComesBefore)
rising_rows r n c (suc k) =
    let row = rising_row (r c) c 0 n in
    let rest = rising_rows r n (c + 1) k in
    let xs = map (pair c) (filter (r c) (range_with_len 0 n)) in
    let ys = flat_map (λ a. map (pair a) (filter (r a) (range_with_len 0 n))) (range_with_len (c + 1) k) in (
      All-append (λ p. c ≤ p.before) xs ys (λ i d l. let e = row.0 i d l in omega (arith, e.0)) (λ i d l. let e = rest.0 i d l in omega arith),
      AllPairs-append ComesBefore (InRow c 0) (λ p. c + 1 ≤ p.before) (λ x y p q. inl (omega (arith, p.0))) xs ys row.0 rest.0 row.1 rest.1,
    )

pub pairs_of-rising : (n : ℕ) (r : ℕ → ℕ → Bool) → AllPairs ComesBefore (pairs_of n r)
pairs_of-rising n r = (rising_rows r n 0 n).1
