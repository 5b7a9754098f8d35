-- Every branching path is extended by some order: the objects by how many are fixed before each.
use Rattle.std.proofs.Common.{◌≡◌, ℕ, zero, suc, ◌+◌, ◌<◌, ◌≤◌, Bool, true, false, cond, leb, List, [], ◌∷◌, length, get_or, inl, inr, refl, sym, ◌∙◌, ap, subst, arith}
use Rattle.std.specs.Prelude.{IsTrue}
use Rattle.std.specs.List.{range_with_len}
use Rattle.std.specs.List.Sorted.{IsPermutation}
use Rattle.std.proofs.lemmas.Bool.{cases_lt, cases_eq}
use Rattle.std.proofs.lemmas.Bool.Decides.{nat_tests}
use Rattle.std.proofs.lemmas.List.Sorted.{IsPermutation-refl, IsPermutation-cons, IsPermutation-trans, IsPermutation-insert}
use Rattle.lop_model.specs.declared.pair.Pair.{Pair}
use Rattle.lop_model.specs.Order.{IsOrder, place_of, StandsBefore}
use Rattle.lop_model.specs.Fixings.{has_pair, one_pair, pair_then, IsLinearExtension, IsBranchingPath}
use Rattle.lop_model.proofs.OrderLemmas.{at-place_of, place_of-below, IsOrder-range, IsOrder-IsPermutation}
use Rattle.lop_model.proofs.FixingsLemmas.{IsLinearExtension-from_closure}
use Rattle.lop_fix.specs.PartialOrder.{IsPartialOrder}
use Rattle.lop_leaf.proofs.PathLemmas.{ClosedOrder, ClosedOrder-path}

-- ---- sorting by a key

-- x at its place among keys that rise
abbrev put_in : (ℕ → ℕ) → ℕ → List ℕ → List ℕ
put_in key x [] = x ∷ []
put_in key x (y ∷ ys) = cond (leb (key x) (key y)) (x ∷ y ∷ ys) (y ∷ put_in key x ys)

abbrev sorted : (ℕ → ℕ) → List ℕ → List ℕ
sorted key [] = []
sorted key (x ∷ xs) = put_in key x (sorted key xs)

-- the key of the first is at most k where there is a first
abbrev Rising : (ℕ → ℕ) → List ℕ → Type 0
Rising key xs = (i j : ℕ) → i < j → j < length xs → key (get_or xs i 0) ≤ key (get_or xs j 0)

module _ (key : ℕ → ℕ) where
  swap_first : (x y : ℕ) (ys zs : List ℕ) → IsPermutation (x ∷ ys) zs → IsPermutation (x ∷ y ∷ ys) (y ∷ zs)
  swap_first x y ys zs p =
      IsPermutation-trans (x ∷ y ∷ ys) (y ∷ x ∷ ys) (y ∷ zs) (IsPermutation-insert (y ∷ ys) 1 x) (IsPermutation-cons y (x ∷ ys) zs p)

  permuted_put : (x : ℕ) (ys : List ℕ) → IsPermutation (x ∷ ys) (put_in key x ys)
  permuted_put x [] = IsPermutation-refl (x ∷ [])
  permuted_put x (y ∷ ys) = go (leb (key x) (key y)) (permuted_put x ys) where
    go : (b : Bool) → IsPermutation (x ∷ ys) (put_in key x ys) → IsPermutation (x ∷ y ∷ ys) (cond b (x ∷ y ∷ ys) (y ∷ put_in key x ys))
    go true p = IsPermutation-refl (x ∷ y ∷ ys)
    go false p = swap_first x y ys (put_in key x ys) p

  permuted_sorted : (xs : List ℕ) → IsPermutation xs (sorted key xs)
  permuted_sorted [] = IsPermutation-refl []
  permuted_sorted (x ∷ xs) =
      IsPermutation-trans (x ∷ xs) (x ∷ sorted key xs) (put_in key x (sorted key xs)) (IsPermutation-cons x xs (sorted key xs) (permuted_sorted xs)) (permuted_put x (sorted key xs))

  -- every key of the list is at least k
  abbrev AllFrom : ℕ → List ℕ → Type 0
  AllFrom k xs = (i : ℕ) → i < length xs → k ≤ key (get_or xs i 0)

  from_cons : (k x : ℕ) (xs : List ℕ) → k ≤ key x → AllFrom k xs → AllFrom k (x ∷ xs)
  from_cons k x xs l h zero m = l
  from_cons k x xs l h (suc i) m = h i (omega arith)

  from_tail : (k x : ℕ) (xs : List ℕ) → AllFrom k (x ∷ xs) → AllFrom k xs
  from_tail k x xs h i m = h (suc i) (omega arith)

  from_put : (k x : ℕ) (ys : List ℕ) → k ≤ key x → AllFrom k ys → AllFrom k (put_in key x ys)
  from_put k x [] l h = from_cons k x [] l h
  from_put k x (y ∷ ys) l h = go (leb (key x) (key y)) (from_put k x ys l (from_tail k y ys h)) where
    go : (b : Bool) → AllFrom k (put_in key x ys) → AllFrom k (cond b (x ∷ y ∷ ys) (y ∷ put_in key x ys))
    go true r = from_cons k x (y ∷ ys) l h
    go false r = from_cons k y (put_in key x ys) (h 0 (omega arith)) r

  rising_cons : (x : ℕ) (xs : List ℕ) → AllFrom (key x) xs → Rising key xs → Rising key (x ∷ xs)
  rising_cons x xs f r i zero l m = absurd (omega arith)
  rising_cons x xs f r zero (suc j) l m = f j (omega arith)
  rising_cons x xs f r (suc i) (suc j) l m = r i j (omega arith) (omega arith)

  rising_tail : (x : ℕ) (xs : List ℕ) → Rising key (x ∷ xs) → Rising key xs
  rising_tail x xs r i j l m = r (suc i) (suc j) (omega arith) (omega arith)

  first_least : (x : ℕ) (xs : List ℕ) → Rising key (x ∷ xs) → AllFrom (key x) xs
  first_least x xs r i m = r 0 (suc i) (omega arith) (omega arith)

  all_more : (k m : ℕ) (xs : List ℕ) → k ≤ m → AllFrom m xs → AllFrom k xs
  all_more k m xs l h i n = let le : m ≤ key (get_or xs i 0) = h i n in omega arith

  rising_put : (x : ℕ) (ys : List ℕ) → Rising key ys → Rising key (put_in key x ys)
  rising_put x [] r = rising_cons x [] (λ i m. absurd (omega arith)) r
  rising_put x (y ∷ ys) r = go (leb (key x) (key y)) refl (rising_put x ys (rising_tail y ys r)) where
    go : (b : Bool) → leb (key x) (key y) ≡ b → Rising key (put_in key x ys) → Rising key (cond b (x ∷ y ∷ ys) (y ∷ put_in key x ys))
    go true t q =
        let le : key x ≤ key y = grind (arith, nat_tests) in
        rising_cons x (y ∷ ys) (from_cons (key x) y ys le (all_more (key x) (key y) ys le (first_least y ys r))) r
    go false f q =
        let le : key y ≤ key x = grind (arith, nat_tests) in
        rising_cons y (put_in key x ys) (from_put (key y) x ys le (first_least y ys r)) q

  rising_sorted : (xs : List ℕ) → Rising key (sorted key xs)
  rising_sorted [] = λ i j l m. absurd (omega arith)
  rising_sorted (x ∷ xs) = rising_put x (sorted key xs) (rising_sorted xs)

-- an order whose keys rise has objects of a lesser key first
stands_by_key : (key : ℕ → ℕ) (n : ℕ) (s : List ℕ) (a b : ℕ) → IsOrder n s → Rising key s → a < n → b < n → key a < key b → StandsBefore s a b
stands_by_key key n s a b o r la lb less =
    let pa : place_of s a < n = place_of-below n s a o la in
    let pb : place_of s b < n = place_of-below n s b o lb in
    let whole : length s ≡ n = o.complete in
    let at_a : get_or s (place_of s a) 0 ≡ a = at-place_of n s a o la in
    let at_b : get_or s (place_of s b) 0 ≡ b = at-place_of n s b o lb in
    elim (cases_lt (place_of s a) (place_of s b)) [
      | inl before ↦ before
      | inr ge ↦ elim (cases_eq (place_of s a) (place_of s b)) [
        | inl same ↦
            let e : a ≡ b = sym at_a ∙ (ap (λ k. get_or s k 0) same ∙ at_b) in
            let f : key a ≡ key b = ap key e in
            absurd (omega arith)
        | inr other ↦
            let le : key (get_or s (place_of s b) 0) ≤ key (get_or s (place_of s a) 0) = r (place_of s b) (place_of s a) (omega arith) (omega arith) in
            let f : key (get_or s (place_of s b) 0) ≡ key b = ap key at_b in
            let g : key (get_or s (place_of s a) 0) ≡ key a = ap key at_a in
            absurd (omega arith)
      ]
    ]

-- ---- how many are fixed before an object

abbrev count_below : ℕ → (ℕ → Bool) → ℕ
count_below zero p = 0
count_below (suc m) p = cond (p m) 1 0 + count_below m p

one_le : (b c : Bool) → (IsTrue b → IsTrue c) → cond b 1 0 ≤ cond c 1 0
one_le true true h = omega arith
one_le true false h = let no : false ≡ true = h refl in cc
one_le false true h = omega arith
one_le false false h = omega arith

count-le : (m : ℕ) (p q : ℕ → Bool) → ((y : ℕ) → IsTrue (p y) → IsTrue (q y)) → count_below m p ≤ count_below m q
count-le zero p q h = omega arith
count-le (suc m) p q h = omega (arith, count-le m p q h, one_le (p m) (q m) (h m))

one_lt : (b c : Bool) → (IsTrue b → ⊥) → IsTrue c → cond b 1 0 < cond c 1 0
one_lt true c h t = absurd (h refl)
one_lt false true h t = omega arith
one_lt false false h t = absurd (cc)

count-lt : (m z : ℕ) (p q : ℕ → Bool) → ((y : ℕ) → IsTrue (p y) → IsTrue (q y)) → z < m → (IsTrue (p z) → ⊥) → IsTrue (q z) → count_below m p < count_below m q
count-lt zero z p q h l never here = absurd (omega arith)
count-lt (suc m) z p q h l never here = elim (cases_lt z m) [
  | inl less ↦ omega (arith, count-lt m z p q h less never here, one_le (p m) (q m) (h m))
  | inr ge ↦
      let e : z ≡ m = omega arith in
      omega (arith, count-le m p q h, one_lt (p m) (q m) (λ t. never (subst (λ k. IsTrue (p k)) (sym e) t)) (subst (λ k. IsTrue (q k)) e here))
]

-- every strict partial order of objects below n is extended by an order of n
module _ (n : ℕ) (G : List Pair) (is : IsPartialOrder (record { size = n; pairs = G })) where
  abbrev fixed_before : ℕ → ℕ
  fixed_before b = count_below n (λ a. has_pair G a b)

  abbrev by_count : List ℕ
  by_count = sorted fixed_before (range_with_len 0 n)

  order_by_count : IsOrder n by_count
  order_by_count = IsOrder-IsPermutation n (range_with_len 0 n) by_count (permuted_sorted fixed_before (range_with_len 0 n)) (IsOrder-range n)

  closed_under : (a b c : ℕ) → IsTrue (has_pair G a b) → IsTrue (has_pair G b c) → IsTrue (has_pair G a c)
  closed_under a b c t u = (is.closed.each a c).1 (pair_then t (one_pair u))

  fewer_before : (a b : ℕ) → IsTrue (has_pair G a b) → fixed_before a < fixed_before b
  fewer_before a b t =
      count-lt n a (λ y. has_pair G y a) (λ y. has_pair G y b) (λ y u. closed_under y a b u t) (is.below a b t).0 (λ u. is.no_cycle a (one_pair u)) t

  extension_by_count : IsLinearExtension by_count G
  extension_by_count = record {
    each = λ a b t. stands_by_key fixed_before n by_count a b order_by_count (rising_sorted fixed_before (range_with_len 0 n)) (is.below a b t).0 (is.below a b t).1 (fewer_before a b t);
  }

-- every branching path is extended by some order
pub extension_of : (n : ℕ) (path : List Pair) → IsBranchingPath n path → (s : List ℕ) × IsOrder n s × IsLinearExtension s path
extension_of n path h =
    let own : ClosedOrder n path = ClosedOrder-path n path h in
    (by_count n own.pairs own.order, order_by_count n own.pairs own.order, IsLinearExtension-from_closure (by_count n own.pairs own.order) path own.pairs own.closure (extension_by_count n own.pairs own.order))
