-- The bits that are set in a row of a table, counted word by word.
use Rattle.std.proofs.Common.{◌≡◌, ◌≢◌, ℕ, zero, suc, ◌+◌, ◌*◌, ◌/◌, ◌%◌, ◌^◌, ◌<◌, ◌≤◌, cond, eqb, List, refl, sym, ◌∙◌, ap, inl, inr, arith}
use Rattle.std.specs.Prelude.{count_ones}
use Rattle.std.specs.Int.{bit_at}
use Rattle.std.proofs.lemmas.Bool.{cases_eq}
use Rattle.std.proofs.lemmas.Nat.{ones_cat, ones_le_self, zero_from_ones, mod-pow-add, pow_pos}
use Rattle.std.proofs.lemmas.Nat.Bits.{bit_at-lt}
use Rattle.std.proofs.Math.Nat.{mod-lt}
use Rattle.lop_model.specs.Sums.{count_below}
use Rattle.lop_model.proofs.CountLemmas.{count_below-same}
use Rattle.lop_fix.specs.Table.{row_words, word, at}

none_set : count_ones 0 ≡ 0
none_set = omega (arith, ones_le_self 0)

some_set : (n : ℕ) → 0 < n → count_ones n ≢ 0
some_set n l none = let same : n ≡ 0 = zero_from_ones n none in omega arith

one_set : count_ones 1 ≡ 1
one_set = omega (arith, ones_le_self 1, some_set 1 (omega arith))

bit_set : (b : ℕ) → b < 2 → count_ones b ≡ cond (eqb b 1) 1 0
bit_set b l = elim (cases_eq b 1) [
  | inl one ↦ rw one one_set
  | inr other ↦ let none : b ≡ 0 = omega arith in rw none none_set
]

-- of a number's lowest k digits
pub ones_low : (v k : ℕ) → count_ones (v % 2 ^ k) ≡ count_below k (λ i. eqb (bit_at v i) 1)
ones_low v zero = let none : v % 2 ^ 0 ≡ 0 = omega arith in rw none none_set
ones_low v (suc k) =
    let b = bit_at v k in
    let low = v % 2 ^ k in
    let split : v % 2 ^ (1 + k) ≡ b * 2 ^ k + low = mod-pow-add v 1 k in
    let place : suc k ≡ 1 + k = omega arith in
    let parts : count_ones (b * 2 ^ k + low) ≡ count_ones b + count_ones low = ones_cat k b low (mod-lt v (pow_pos k)) in
    ap (λ j. count_ones (v % 2 ^ j)) place ∙ ap count_ones split ∙ omega (arith, parts, bit_set b (bit_at-lt v k), ones_low v k)

at_place : (t : List ℕ) (n a k i : ℕ) → i < 64 → at t n a (k * 64 + i) ≡ eqb (bit_at (word t (row_words n) a k) i) 1
at_place t n a k i l =
    let quotient : (k * 64 + i) / 64 ≡ k = omega arith in
    let rest : (k * 64 + i) % 64 ≡ i = omega arith in
    rw (quotient, rest) refl

-- the first m columns of word k of a row
pub count_columns : (t : List ℕ) (n a k m : ℕ) → m ≤ 64 → count_below m (λ i. at t n a (k * 64 + i)) ≡ count_below m (λ i. eqb (bit_at (word t (row_words n) a k) i) 1)
count_columns t n a k m l = count_below-same m (λ i. at t n a (k * 64 + i)) (λ i. eqb (bit_at (word t (row_words n) a k) i) 1) (λ i o. at_place t n a k i (omega arith))

-- all 64 columns of word k
pub count_word : (t : List ℕ) (n a k : ℕ) → word t (row_words n) a k < 2 ^ 64 → count_below 64 (λ i. at t n a (k * 64 + i)) ≡ count_ones (word t (row_words n) a k)
count_word t n a k l =
    let v = word t (row_words n) a k in
    let whole : v % 2 ^ 64 ≡ v = omega arith in
    count_columns t n a k 64 (omega arith) ∙ sym (ones_low v 64) ∙ ap count_ones whole
