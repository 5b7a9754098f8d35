-- A number's text is a word, and spells the number.
use Rattle.std.proofs.Common.{◌≡◌, ℕ, suc, ◌+◌, ◌^◌, ◌<◌, ◌≤◌, Bool, true, false, not, ◌&&◌, ◌||◌, ◌==◌, cond, nat_lt, nat_le, List, [], ◌∷◌, ◌++◌, length, drop, ℤ, pos, negsuc, nat_abs, neg_ℤ, refl, sym, ◌∙◌, ap, arith, rules}
use Rattle.std.specs.Fmt.{decimal, signed_decimal}
use Rattle.std.specs.List.{list_all, position_or_len}
use Rattle.std.proofs.Math.Seq.{take-append_seam, drop-append_seam}
use Rattle.std.proofs.lemmas.Bool.{and_parts, and_from, ne_eqb, le-leb, lt-ltb, leb-true}
use Rattle.std.proofs.lemmas.Fmt.{digits_decimal, digits_value-decimal, decimal_nonempty}
use Rattle.std.proofs.lemmas.Str.Parse.{IsNumeralModel, numerals_by_fold}
use Rattle.lop_desk.specs.Number.{is_digit, all_digits, value_from, digits_value, unsigned_word, whole_value, is_whole_word}
use Rattle.lop_lolib.specs.Words.{is_separator, words_of, is_bounded_whole}
use Rattle.lop_lolib.proofs.WordsLemmas.{words_of-separator, words_of-word}

numerals : IsNumeralModel (λ ds. all_digits ds ≡ true) digits_value
numerals = numerals_by_fold _ (search rules) value_from (search rules)

-- no byte of the word is a separator
abbrev pub is_free : List ℕ → Bool
is_free word = list_all (λ b. not (is_separator b)) word

no_separator : (b : ℕ) → 33 ≤ b → is_separator b ≡ false
no_separator b above =
    let a = ne_eqb b 32 (λ (e : b ≡ 32). absurd (omega arith)) in
    let c = ne_eqb b 9 (λ (e : b ≡ 9). absurd (omega arith)) in
    let d = ne_eqb b 13 (λ (e : b ≡ 13). absurd (omega arith)) in
    let f = ne_eqb b 10 (λ (e : b ≡ 10). absurd (omega arith)) in
    ap (λ (t : Bool). t || b == 9 || b == 13 || b == 10) a ∙ ap (λ (t : Bool). false || t || b == 13 || b == 10) c ∙ ap (λ (t : Bool). false || false || t || b == 10) d ∙ ap (λ (t : Bool). false || false || false || t) f

digits_free : (ds : List ℕ) → all_digits ds ≡ true → is_free ds ≡ true
digits_free [] e = refl
digits_free (d ∷ ds) e =
    let parts = and_parts (is_digit d) (all_digits ds) e in
    let low : 48 ≤ d = leb-true 48 d (and_parts (nat_le 48 d) (nat_le d 57) parts.0).0 in
    and_from _ _ (ap not (no_separator d (omega arith))) (digits_free ds parts.1)

decimal_digits : (n : ℕ) → n < 2 ^ 64 → all_digits (decimal n) ≡ true
decimal_digits n small = digits_decimal numerals n small

pub number_free : (z : ℤ) → nat_abs z ≤ 10 ^ 18 → is_free (signed_decimal z) ≡ true
number_free (pos n) small = digits_free (decimal n) (decimal_digits n (omega arith))
number_free (negsuc n) small = digits_free (decimal (suc n)) (decimal_digits (suc n) (omega arith))

pub number_some : (z : ℤ) → nat_abs z ≤ 10 ^ 18 → 0 < length (signed_decimal z)
number_some (pos n) small = decimal_nonempty n (omega arith)
number_some (negsuc n) small = omega arith

-- digits have no sign
unsigned-digits : (ds : List ℕ) → all_digits ds ≡ true → unsigned_word ds ≡ ds
unsigned-digits [] e = refl
unsigned-digits (d ∷ ds) e =
    let parts = and_parts (is_digit d) (all_digits ds) e in
    let low : 48 ≤ d = leb-true 48 d (and_parts (nat_le 48 d) (nat_le d 57) parts.0).0 in
    let plus = ne_eqb d 43 (λ (e : d ≡ 43). absurd (omega arith)) in
    let minus = ne_eqb d 45 (λ (e : d ≡ 45). absurd (omega arith)) in
    ap (λ (t : Bool). cond t ds (cond (d == 45) ds (d ∷ ds))) plus ∙ ap (λ (t : Bool). cond t ds (d ∷ ds)) minus

value-digits : (ds : List ℕ) → 0 < length ds → all_digits ds ≡ true → whole_value ds ≡ pos (digits_value ds)
value-digits [] some e = absurd (omega arith)
value-digits (d ∷ ds) some e =
    let parts = and_parts (is_digit d) (all_digits ds) e in
    let low : 48 ≤ d = leb-true 48 d (and_parts (nat_le 48 d) (nat_le d 57) parts.0).0 in
    let minus = ne_eqb d 45 (λ (e : d ≡ 45). absurd (omega arith)) in
    ap (λ (t : Bool). cond t (neg_ℤ (pos (digits_value ds))) (pos (digits_value (unsigned_word (d ∷ ds))))) minus ∙ ap (λ (l : List ℕ). pos (digits_value l)) (unsigned-digits (d ∷ ds) e)

pub whole_value-number : (z : ℤ) → nat_abs z ≤ 10 ^ 18 → whole_value (signed_decimal z) ≡ z
whole_value-number (pos n) small = value-digits (decimal n) (decimal_nonempty n (omega arith)) (decimal_digits n (omega arith)) ∙ ap pos (digits_value-decimal numerals n (omega arith))
whole_value-number (negsuc n) small = ap (λ (v : ℕ). neg_ℤ (pos v)) (digits_value-decimal numerals (suc n) (omega arith))

pub whole-number : (z : ℤ) → nat_abs z ≤ 10 ^ 18 → is_whole_word (signed_decimal z) ≡ true
whole-number (pos n) small =
    let digits = decimal_digits n (omega arith) in
    let bare = unsigned-digits (decimal n) digits in
    ap (λ (l : List ℕ). nat_lt 0 (length l) && all_digits l) bare ∙ and_from _ _ (lt-ltb 0 (length (decimal n)) (decimal_nonempty n (omega arith))) digits
whole-number (negsuc n) small = and_from _ _ (lt-ltb 0 (length (decimal (suc n))) (decimal_nonempty (suc n) (omega arith))) (decimal_digits (suc n) (omega arith))

pub number_word : (z : ℤ) → nat_abs z ≤ 10 ^ 18 → is_bounded_whole (signed_decimal z) ≡ true
number_word z small = and_from _ _ (whole-number z small) (ap (λ (v : ℤ). nat_le (nat_abs v) (10 ^ 18)) (whole_value-number z small) ∙ le-leb (nat_abs z) (10 ^ 18) small)

-- ---- a word in front

pub position-front : (word : List ℕ) (b : ℕ) (rest : List ℕ) → is_free word ≡ true → is_separator b ≡ true → position_or_len is_separator (word ++ b ∷ rest) ≡ length word
position-front [] b rest free is = ap (λ (t : Bool). cond (not t) (1 + position_or_len is_separator rest) 0) is
position-front (x ∷ xs) b rest free is =
    let parts = and_parts (not (is_separator x)) (is_free xs) free in
    let others = position-front xs b rest parts.1 is in
    ap (λ (t : Bool). cond t (1 + position_or_len is_separator (xs ++ b ∷ rest)) 0) parts.0 ∙ (omega (arith, others))

pub position-alone : (word : List ℕ) → is_free word ≡ true → position_or_len is_separator word ≡ length word
position-alone [] free = refl
position-alone (x ∷ xs) free =
    let parts = and_parts (not (is_separator x)) (is_free xs) free in
    let others = position-alone xs parts.1 in
    ap (λ (t : Bool). cond t (1 + position_or_len is_separator xs) 0) parts.0 ∙ (omega (arith, others))

-- a word and the separator behind it
pub words_of-front : (word : List ℕ) (b : ℕ) (rest : List ℕ) → 0 < length word → is_free word ≡ true → is_separator b ≡ true → words_of (word ++ b ∷ rest) ≡ word ∷ words_of rest
words_of-front word b rest some free is =
    words_of-word (word ++ b ∷ rest) (length word) (sym (position-front word b rest free is)) some
    ∙ ap (λ (l : List ℕ). l ∷ words_of (drop (length word) (word ++ b ∷ rest))) (take-append_seam word (b ∷ rest))
    ∙ ap (λ (l : List ℕ). word ∷ words_of l) (drop-append_seam word (b ∷ rest))
    ∙ ap (λ (l : List (List ℕ)). word ∷ l) (words_of-separator b rest is)
