-- A quotient that is rounded down.
use Rattle.std.proofs.Common.{◌≡◌, ℕ, zero, suc, ◌+◌, ◌*◌, ◌/◌, ◌<◌, ◌≤◌, ◌↔◌, ℤ, pos, negsuc, neg_ℤ, ◌+ℤ◌, ◌*ℤ◌, ◌≤ℤ◌, ◌<ℤ◌, ◌∙◌, ap, arith}
use Rattle.std.specs.Int.{int_div_euclid}
use Rattle.std.proofs.Math.Nat.{div-mul-le_self, lt-mul-div-succ}
use Rattle.std.proofs.Math.IntN.{suc_ℤ-*ℤ, zero-*ℤ, pos-*ℤ-pos, pos-*ℤ-negsuc}
use Rattle.std.proofs.lemmas.Int.{ints, by_lt_z}

pub scaled-le : (m : ℕ) (x y : ℤ) → x ≤ℤ y → (pos m *ℤ x) ≤ℤ (pos m *ℤ y)
scaled-le zero x y h = rw (zero-*ℤ x, zero-*ℤ y) (omega (arith, ints))
scaled-le (suc m) x y h =
    let here : (pos m *ℤ x) ≤ℤ (pos m *ℤ y) = scaled-le m x y h in
    let left : pos (suc m) *ℤ x ≡ pos m *ℤ x +ℤ x = suc_ℤ-*ℤ (pos m) x in
    let right : pos (suc m) *ℤ y ≡ pos m *ℤ y +ℤ y = suc_ℤ-*ℤ (pos m) y in
    omega (arith, ints)

-- S x at u or below, and u below S (q + 1), put x at q or below
pub scaled_down : (S : ℕ) (x u q : ℤ) → (pos S *ℤ x) ≤ℤ u → u <ℤ (pos S *ℤ (q +ℤ pos 1)) → x ≤ℤ q
scaled_down S x u q h k =
    by_lt_z q x (λ l. let up : (pos S *ℤ (q +ℤ pos 1)) ≤ℤ (pos S *ℤ x) = scaled-le S (q +ℤ pos 1) x (omega (arith, ints)) in absurd (omega (arith, ints))) (λ l. l)

negated-le : (a b : ℕ) → a + 1 ≤ b → neg_ℤ (pos b) ≤ℤ negsuc a
negated-le a b h = omega (arith, ints)

pub quotient-below : (S : ℕ) (u : ℤ) → 0 < S → (pos S *ℤ int_div_euclid u (pos S)) ≤ℤ u
quotient-below S (pos a) h = rw (pos-*ℤ-pos S (a / S)) (let l : a / S * S ≤ a = div-mul-le_self a S in omega (arith, ints))
quotient-below S (negsuc a) h =
    let l : a < S * (a / S + 1) = lt-mul-div-succ a h in
    rw (pos-*ℤ-negsuc S (a / S)) (negated-le a (S * suc (a / S)) (omega arith))

next-negative : (S a k : ℕ) → k * S ≤ a → negsuc a <ℤ (pos S *ℤ (negsuc k +ℤ pos 1))
next-negative S a zero h = rw (pos-*ℤ-pos S 0) (omega (arith, ints))
next-negative S a (suc k) h =
    let step : negsuc (suc k) +ℤ pos 1 ≡ negsuc k = omega (arith, ints) in
    let product : pos S *ℤ (negsuc (suc k) +ℤ pos 1) ≡ neg_ℤ (pos (S * suc k)) = ap (λ x. pos S *ℤ x) step ∙ pos-*ℤ-negsuc S k in
    omega (arith, ints)

pub quotient-next : (S : ℕ) (u : ℤ) → 0 < S → u <ℤ (pos S *ℤ (int_div_euclid u (pos S) +ℤ pos 1))
quotient-next S (pos a) h =
    let l : a < S * (a / S + 1) = lt-mul-div-succ a h in
    rw (pos-*ℤ-pos S (a / S + 1)) (omega (arith, ints))
quotient-next S (negsuc a) h = next-negative S a (a / S) (div-mul-le_self a S)

-- the quotient is the greatest x with S x at u or below
pub quotient-greatest : (S : ℕ) (u q x : ℤ) → 0 < S → q ≡ int_div_euclid u (pos S) → ((pos S *ℤ x) ≤ℤ u) ↔ (x ≤ℤ q)
quotient-greatest S u q x h e = rw e (
  (λ k. scaled_down S x u (int_div_euclid u (pos S)) k (quotient-next S u h)),
  (λ k. let up : (pos S *ℤ x) ≤ℤ (pos S *ℤ int_div_euclid u (pos S)) = scaled-le S x (int_div_euclid u (pos S)) k in let below : (pos S *ℤ int_div_euclid u (pos S)) ≤ℤ u = quotient-below S u h in omega (arith, ints)),
)

pub quotient-certified : (S : ℕ) (u q : ℤ) → 0 < S → q ≡ int_div_euclid u (pos S) → u <ℤ (pos S *ℤ (q +ℤ pos 1))
quotient-certified S u q h e = rw e (quotient-next S u h)
