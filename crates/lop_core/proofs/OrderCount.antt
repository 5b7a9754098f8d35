-- The list of all orders of n: its length is n!.
use Rattle.std.proofs.Common.{◌≡◌, ◌≢◌, ℕ, zero, suc, ◌*◌, ◌<◌, List, [], ◌∷◌, ◌++◌, length, get_or, ◌⊎◌, inl, inr, arith, refl, sym, ◌∙◌, ap, subst}
use Rattle.std.specs.List.{insert, remove}
use Rattle.std.proofs.Math.Nat.{mul_comm, zero-mul, suc-mul}
use Rattle.std.proofs.lemmas.Bool.{cases_lt}
use Rattle.std.proofs.lemmas.List.{length-append, nil_from_length}
use Rattle.std.proofs.lemmas.List.Sorted.{IsPermutation-insert, IsPermutation-remove}
use Rattle.std.proofs.lemmas.Grind.{get_or_default_zero}
use Rattle.lop_model.specs.Order.{IsOrder, place_of}
use Rattle.lop_model.proofs.OrderLemmas.{place_of-below, at-place_of, IsOrder-IsPermutation}
use Rattle.lop_model.proofs.InsertLemmas.{insert-remove}
use Rattle.lop_core.specs.AllOrders.{factorial}

-- s is one of the list
abbrev pub HasOrder : List (List ℕ) → List ℕ → Type 0
HasOrder [] s = ⊥
HasOrder (x ∷ xs) s = (x ≡ s) ⊎ HasOrder xs s

-- each of the list is an order of n
abbrev pub AreOrders : ℕ → List (List ℕ) → Type 0
AreOrders n [] = Unit {0}
AreOrders n (x ∷ xs) = IsOrder n x × AreOrders n xs

-- the list has the orders of n, and nothing else
pub record AreAllOrders (n : ℕ) (all : List (List ℕ)) : Type 0 where
  pub orders : AreOrders n all
  pub every : (s : List ℕ) → IsOrder n s → HasOrder all s

-- ---- the list

-- a put into s at each place below k
abbrev put_below : ℕ → List ℕ → ℕ → List (List ℕ)
put_below a s zero = []
put_below a s (suc k) = insert s k a ∷ put_below a s k

-- n put into each order of n at each of its n + 1 places
abbrev with_next : ℕ → List (List ℕ) → List (List ℕ)
with_next n [] = []
with_next n (s ∷ all) = put_below n s (suc n) ++ with_next n all

-- of 0 objects the empty order; of n + 1 objects each order of n, with the object n put in at each place
abbrev pub all_orders : ℕ → List (List ℕ)
all_orders zero = [] ∷ []
all_orders (suc n) = with_next n (all_orders n)

-- ---- its length

length-put_below : (a : ℕ) (s : List ℕ) (k : ℕ) → length (put_below a s k) ≡ k
length-put_below a s zero = refl
length-put_below a s (suc k) = ap suc (length-put_below a s k)

length-with_next : (n : ℕ) (all : List (List ℕ)) → length (with_next n all) ≡ length all * suc n
length-with_next n [] = sym (zero-mul (suc n))
length-with_next n (s ∷ all) =
    omega (arith, length-append (put_below n s (suc n)) (with_next n all), length-put_below n s (suc n), length-with_next n all, suc-mul (length all) (suc n))

-- n! orders stand in it
pub length-all_orders : (n : ℕ) → length (all_orders n) ≡ factorial n
length-all_orders zero = refl
length-all_orders (suc n) = length-with_next n (all_orders n) ∙ ap (λ k. k * suc n) (length-all_orders n) ∙ mul_comm (factorial n) (suc n)

-- ---- nothing but orders

-- n before an order of n
order_next : (n : ℕ) (s : List ℕ) → IsOrder n s → IsOrder (suc n) (n ∷ s)
order_next n s o = record {
  complete = ap suc o.complete;
  below = below;
  distinct = distinct;
} where
  below : (p : ℕ) → p < suc n → get_or (n ∷ s) p 0 < suc n
  below zero l = omega arith
  below (suc p) l = omega (arith, o.below p (omega arith))

  distinct : (p q : ℕ) → p < q → q < suc n → get_or (n ∷ s) p 0 ≢ get_or (n ∷ s) q 0
  distinct p zero l m = absurd (omega arith)
  distinct zero (suc q) l m = λ e. absurd (omega (arith, e, o.below q (omega arith)))
  distinct (suc p) (suc q) l m = o.distinct p q (omega arith) (omega arith)

-- n put into an order of n
order_put : (n : ℕ) (s : List ℕ) (k : ℕ) → IsOrder n s → IsOrder (suc n) (insert s k n)
order_put n s k o = IsOrder-IsPermutation (suc n) (n ∷ s) (insert s k n) (IsPermutation-insert s k n) (order_next n s o)

orders_put : (n : ℕ) (s : List ℕ) → IsOrder n s → (k : ℕ) → AreOrders (suc n) (put_below n s k)
orders_put n s o zero = tt
orders_put n s o (suc k) = (order_put n s k o, orders_put n s o k)

orders_append : (n : ℕ) (xs ys : List (List ℕ)) → AreOrders n xs → AreOrders n ys → AreOrders n (xs ++ ys)
orders_append n [] ys h g = g
orders_append n (x ∷ xs) ys h g = (h.0, orders_append n xs ys h.1 g)

orders_with_next : (n : ℕ) (all : List (List ℕ)) → AreOrders n all → AreOrders (suc n) (with_next n all)
orders_with_next n [] h = tt
orders_with_next n (s ∷ all) h = orders_append (suc n) (put_below n s (suc n)) (with_next n all) (orders_put n s h.0 (suc n)) (orders_with_next n all h.1)

only_orders : (n : ℕ) → AreOrders n (all_orders n)
only_orders zero = (record { complete = refl; below = λ p l. absurd (omega arith); distinct = λ p q l m. absurd (omega arith) }, tt)
only_orders (suc n) = orders_with_next n (all_orders n) (only_orders n)

-- ---- every order

has_left : (xs ys : List (List ℕ)) (s : List ℕ) → HasOrder xs s → HasOrder (xs ++ ys) s
has_left [] ys s h = absurd h
has_left (x ∷ xs) ys s (inl same) = inl same
has_left (x ∷ xs) ys s (inr later) = inr (has_left xs ys s later)

has_right : (xs ys : List (List ℕ)) (s : List ℕ) → HasOrder ys s → HasOrder (xs ++ ys) s
has_right [] ys s h = h
has_right (x ∷ xs) ys s h = inr (has_right xs ys s h)

has_put : (a : ℕ) (s : List ℕ) (t k : ℕ) → t < k → HasOrder (put_below a s k) (insert s t a)
has_put a s t zero l = absurd (omega arith)
has_put a s t (suc k) l = elim (cases_lt t k) [
  | inl less ↦ inr (has_put a s t k less)
  | inr ge ↦ let e : k ≡ t = omega arith in inl (ap (λ i. insert s i a) e)
]

has_with_next : (n : ℕ) (all : List (List ℕ)) (r : List ℕ) (t : ℕ) → t < suc n → HasOrder all r → HasOrder (with_next n all) (insert r t n)
has_with_next n [] r t l h = absurd h
has_with_next n (s ∷ all) r t l (inl same) =
    has_left (put_below n s (suc n)) (with_next n all) (insert r t n) (subst (λ (x : List ℕ). HasOrder (put_below n s (suc n)) (insert x t n)) same (has_put n s t (suc n) l))
has_with_next n (s ∷ all) r t l (inr later) = has_right (put_below n s (suc n)) (with_next n all) (insert r t n) (has_with_next n all r t l later)

other_below : (n a : ℕ) → a < suc n → n ≢ a → a < n
other_below n a less other = elim (cases_lt a n) [
  | inl l ↦ l
  | inr ge ↦ let e : n ≡ a = omega arith in absurd (other e)
]

-- what follows n in an order of n + 1 that begins with n is an order of n
order_rest : (n : ℕ) (r : List ℕ) → IsOrder (suc n) (n ∷ r) → IsOrder n r
order_rest n r o = record {
  complete = omega (arith, o.complete);
  below = λ p l.
      let less : get_or r p 0 < suc n = o.below (suc p) (omega arith) in
      let other : n ≢ get_or r p 0 = o.distinct 0 (suc p) (omega arith) (omega arith) in
      other_below n (get_or r p 0) less other;
  distinct = λ p q l m. o.distinct (suc p) (suc q) (omega arith) (omega arith);
}

module _ (n : ℕ) (s : List ℕ) (o : IsOrder (suc n) s) where
  abbrev at_next : ℕ
  at_next = place_of s n

  next_within : at_next < length s
  next_within = omega (arith, o.complete, place_of-below (suc n) s n o (omega arith))

  next_there : get_or s at_next 0 ≡ n
  next_there = at-place_of (suc n) s n o (omega arith)

  order_without : IsOrder n (remove s at_next)
  order_without =
      order_rest n (remove s at_next)
      (IsOrder-IsPermutation (suc n) s (n ∷ remove s at_next) (IsPermutation-remove s at_next n next_within (sym next_there ∙ sym (get_or_default_zero s at_next n next_within))) o)

  put_back : insert (remove s at_next) at_next n ≡ s
  put_back = ap (λ a. insert (remove s at_next) at_next a) (sym next_there) ∙ insert-remove s at_next next_within

every_order : (n : ℕ) (s : List ℕ) → IsOrder n s → HasOrder (all_orders n) s
every_order zero s o = inl (sym (nil_from_length s o.complete))
every_order (suc n) s o =
    subst (λ (x : List ℕ). HasOrder (with_next n (all_orders n)) x) (put_back n s o)
    (has_with_next n (all_orders n) (remove s (at_next n s o)) (at_next n s o) (place_of-below (suc n) s n o (omega arith)) (every_order n (remove s (at_next n s o)) (order_without n s o)))

-- the list has all orders of n
pub all_orders_are : (n : ℕ) → AreAllOrders n (all_orders n)
all_orders_are n = record { orders = only_orders n; every = every_order n }
