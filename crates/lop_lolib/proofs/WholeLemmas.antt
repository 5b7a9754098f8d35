-- Whole words are numbers without decimals, so a text of whole words is read in units of 1.
use Rattle.std.proofs.Common.{◌≡◌, ℕ, ◌+◌, Bool, true, false, ◌==◌, cond, nat_lt, nat_le, nat_abs, List, [], ◌∷◌, length, ℤ, refl, sym, ◌∙◌, ap, arith}
use Rattle.std.specs.List.{prefix_len}
use Rattle.std.proofs.lemmas.Bool.{and_parts, and_from, ne_eqb, eqb-true, le-leb}
use Rattle.lop_desk.specs.Number.{is_digit, all_digits, is_digit_word, is_whole_word, unsigned_word, whole_value}
use Rattle.lop_lolib.specs.declared.number.TheConstants.{MAX_NUMBER}
use Rattle.lop_lolib.specs.Words.{is_bounded_whole}
use Rattle.lop_lolib.specs.Number.{is_point, without_point, is_decimal_word, decimal_count, digits_of}
use Rattle.lop_lolib.specs.Reading.{is_entry_word}
use Rattle.lop_lolib.proofs.NumberLemmas.{plain-digits, point-behind, word_sign}

run-all : (bs : List ℕ) → all_digits bs ≡ true → prefix_len is_digit bs ≡ length bs
run-all [] e = refl
run-all (b ∷ bs) e =
    let parts = and_parts (is_digit b) (all_digits bs) e in
    ap (λ (t : Bool). cond t (1 + prefix_len is_digit bs) 0) parts.0 ∙ omega (arith, run-all bs parts.1)

digits-bare : (bs : List ℕ) → is_digit_word bs ≡ true → (without_point bs ≡ bs) × (decimal_count bs ≡ 0)
digits-bare bs is =
    let digits = (and_parts (nat_lt 0 (length bs)) (all_digits bs) is).1 in
    let plain = plain-digits bs (length bs) (sym (run-all bs digits)) refl in
    (plain.0, plain.1)

whole-bare : (word : List ℕ) → is_whole_word word ≡ true → without_point word ≡ word
whole-bare [] is = refl
whole-bare (b ∷ bs) is = by (b == 43) (b == 45) refl refl is
  where
    signed-bare : is_point b ≡ false → is_digit_word bs ≡ true → without_point (b ∷ bs) ≡ b ∷ bs
    signed-bare none digits = (point-behind b bs none).0 ∙ ap (λ (l : List ℕ). b ∷ l) (digits-bare bs digits).0

    by : (t u : Bool) → (b == 43) ≡ t → (b == 45) ≡ u → is_digit_word (cond t bs (cond u bs (b ∷ bs))) ≡ true → without_point (b ∷ bs) ≡ b ∷ bs
    by true u e f digits = let plus : b ≡ 43 = eqb-true b 43 e in signed-bare (ne_eqb b 46 (λ (g : b ≡ 46). absurd (omega arith))) digits
    by false true e f digits = let minus : b ≡ 45 = eqb-true b 45 f in signed-bare (ne_eqb b 46 (λ (g : b ≡ 46). absurd (omega arith))) digits
    by false false e f digits = (digits-bare (b ∷ bs) digits).0

-- a whole word is a number without decimals, and the same number
pub whole-number : (word : List ℕ) → is_whole_word word ≡ true → (is_decimal_word word ≡ true) × (decimal_count word ≡ 0) × (digits_of word ≡ whole_value word)
whole-number word is =
    let unsigned = digits-bare (unsigned_word word) is in
    let decimal : is_decimal_word word ≡ true = ap is_digit_word unsigned.0 ∙ is in
    (decimal, (word_sign word decimal).0 ∙ unsigned.1, ap whole_value (whole-bare word is))

pub whole-entry : (word : List ℕ) → is_bounded_whole word ≡ true → is_entry_word word ≡ true
whole-entry word is =
    let parts = and_parts (is_whole_word word) (nat_le (nat_abs (whole_value word)) MAX_NUMBER) is in
    let number = whole-number word parts.0 in
    and_from _ _ (and_from _ _ number.0 (le-leb _ _ (omega (arith, number.1)))) (ap (λ (v : ℤ). nat_le (nat_abs v) MAX_NUMBER) number.2 ∙ parts.1)
