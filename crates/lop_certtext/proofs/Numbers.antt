-- A number and its one spelling.
use Rattle.std.proofs.Common.{◌≡◌, ℕ, ◌*◌, ◌^◌, ◌<◌, ◌≤◌, zero, suc, Bool, true, false, not, ◌&&◌, ◌==◌, cond, List, [], ◌∷◌, length, map, nat_lt, nat_le, get_or, ℤ, pos, negsuc, neg_ℤ, nat_abs, Option, None, Some, refl, sym, ◌∙◌, ap, arith, rules}
use lib.Signed.{mag}
use Rattle.std.specs.Fmt.{decimal, signed_decimal}
use Rattle.std.specs.List.{list_all, flat_map}
use Rattle.std.proofs.lemmas.Bool.{and_parts, and_from, eqb-true, ne_eqb, lt-ltb, ltb-true, leb-true, false≢true, not_from_false}
use Rattle.std.proofs.lemmas.Fmt.{digits_decimal, digits_value-decimal, decimal-digits_value, decimal_nonempty, first_decimal, decimal_digit, length_signed_le}
use Rattle.std.proofs.lemmas.List.{length-append}
use Rattle.std.proofs.lemmas.Str.Parse.{IsNumeralModel, numerals_by_fold}
use Rattle.lop_desk.specs.Number.{is_digit, all_digits, value_from, digits_value, is_plain_word}
use Rattle.lop_desk.proofs.Spellings.{plain_parts, plain_from}
use Rattle.lop_certtext.specs.Line.{number_of, is_signed, with_number, numbers_of}
use Rattle.lop_certtext.specs.Reading.{number_word}

-- digits and their value are those of std
pub numerals : IsNumeralModel (λ ds. all_digits ds ≡ true) digits_value
numerals = numerals_by_fold _ (search rules) value_from (search rules)

-- a plain word is what its value is written as
plain_is : (word : List ℕ) → is_plain_word word ≡ true → digits_value word < 2 ^ 63 → decimal (digits_value word) ≡ word
plain_is word e small =
    let p = plain_parts word e in
    decimal-digits_value numerals word p.digits p.not_empty p.shortest (omega arith)

-- a number is written as a plain word, with its value
decimal_plain : (n : ℕ) → n < 2 ^ 63 → is_plain_word (decimal n) ≡ true
decimal_plain zero small = ap is_plain_word (decimal_digit 0 (omega arith))
decimal_plain (suc n) small =
    let first : 48 < get_or (decimal (suc n)) 0 0 = first_decimal (suc n) (omega arith) (omega arith) in
    plain_from (decimal (suc n)) record {
      not_empty = decimal_nonempty (suc n) (omega arith);
      digits = digits_decimal numerals (suc n) (omega arith);
      shortest = λ (e : get_or (decimal (suc n)) 0 0 ≡ 48). absurd (omega arith);
    }

decimal_value : (n : ℕ) → n < 2 ^ 63 → digits_value (decimal n) ≡ n
decimal_value n small = digits_value-decimal numerals n (omega arith)

signed_decimal-minus : (v : ℕ) → 0 < v → signed_decimal (neg_ℤ (pos v)) ≡ 45 ∷ decimal v
signed_decimal-minus zero some = absurd (omega arith)
signed_decimal-minus (suc v) some = refl

nat_abs-minus : (v : ℕ) → nat_abs (neg_ℤ (pos v)) ≡ v
nat_abs-minus zero = refl
nat_abs-minus (suc v) = refl

-- what a piece with a `-` in front, and one without, spell
pub number_of-minus : (ds : List ℕ) → number_of (45 ∷ ds) ≡ cond (is_plain_word ds && nat_lt 0 (digits_value ds)) (Some (neg_ℤ (pos (digits_value ds)))) None
number_of-minus ds = refl

pub number_of-other : (b : ℕ) (bs : List ℕ) → (b ≡ 45 → ⊥) → number_of (b ∷ bs) ≡ cond (is_plain_word (b ∷ bs)) (Some (pos (digits_value (b ∷ bs)))) None
number_of-other b bs other = ap (λ (t : Bool). cond t (cond (is_plain_word bs && nat_lt 0 (digits_value bs)) (Some (neg_ℤ (pos (digits_value bs)))) None) (cond (is_plain_word (b ∷ bs)) (Some (pos (digits_value (b ∷ bs)))) None)) (ne_eqb b 45 other)

number_of-plain : (word : List ℕ) → is_plain_word word ≡ true → number_of word ≡ Some (pos (digits_value word))
number_of-plain [] e = absurd (false≢true e)
number_of-plain (b ∷ bs) e =
    let digit = and_parts (is_digit b) (all_digits bs) (plain_parts (b ∷ bs) e).digits in
    let low = leb-true 48 b (and_parts (nat_le 48 b) (nat_le b 57) digit.0).0 in
    number_of-other b bs (λ minus. absurd (omega arith)) ∙ ap (λ (t : Bool). cond t (Some (pos (digits_value (b ∷ bs)))) None) e

-- a number that a word spells is written as that word
pub signed_decimal-number_of : (word : List ℕ) (n : ℤ) → number_of word ≡ Some n → nat_abs n < 2 ^ 63 → word ≡ signed_decimal n
signed_decimal-number_of [] n e small = absurd (cc)
signed_decimal-number_of (b ∷ bs) n e small = by (b == 45) refl e
  where
    plain : (t : Bool) → is_plain_word (b ∷ bs) ≡ t → cond t (Some (pos (digits_value (b ∷ bs)))) None ≡ Some n → (b ∷ bs) ≡ signed_decimal n
    plain false is e = absurd (cc)
    plain true is e =
        let same : pos (digits_value (b ∷ bs)) ≡ n = cc in
        let value : digits_value (b ∷ bs) ≡ nat_abs n = ap nat_abs same in
        sym (plain_is (b ∷ bs) is (omega arith)) ∙ ap signed_decimal same

    minus : (t : Bool) → (is_plain_word bs && nat_lt 0 (digits_value bs)) ≡ t → b ≡ 45 → cond t (Some (neg_ℤ (pos (digits_value bs)))) None ≡ Some n → (b ∷ bs) ≡ signed_decimal n
    minus false is first e = absurd (cc)
    minus true is first e =
        let v = digits_value bs in
        let parts = and_parts (is_plain_word bs) (nat_lt 0 v) is in
        let same : neg_ℤ (pos v) ≡ n = cc in
        let value : v ≡ nat_abs n = sym (nat_abs-minus v) ∙ ap nat_abs same in
        ap (λ (x : ℕ). x ∷ bs) first ∙ ap (λ (l : List ℕ). 45 ∷ l) (sym (plain_is bs parts.0 (omega arith))) ∙ sym (signed_decimal-minus v (ltb-true 0 v parts.1)) ∙ ap signed_decimal same

    by : (t : Bool) → (b == 45) ≡ t → cond t (cond (is_plain_word bs && nat_lt 0 (digits_value bs)) (Some (neg_ℤ (pos (digits_value bs)))) None) (cond (is_plain_word (b ∷ bs)) (Some (pos (digits_value (b ∷ bs)))) None) ≡ Some n → (b ∷ bs) ≡ signed_decimal n
    by true is e = minus (is_plain_word bs && nat_lt 0 (digits_value bs)) refl (eqb-true b 45 is) e
    by false is e = plain (is_plain_word (b ∷ bs)) refl e

-- and is read back from it
pub number_of-signed_decimal : (n : ℤ) → nat_abs n < 2 ^ 63 → number_of (signed_decimal n) ≡ Some n
number_of-signed_decimal (pos n) small = number_of-plain (decimal n) (decimal_plain n small) ∙ ap (λ (v : ℕ). Some (pos v)) (decimal_value n small)
number_of-signed_decimal (negsuc n) small =
    let ds = decimal (suc n) in
    let value : digits_value ds ≡ suc n = decimal_value (suc n) small in
    let test : (is_plain_word ds && nat_lt 0 (digits_value ds)) ≡ true = and_from _ _ (decimal_plain (suc n) small) (lt-ltb 0 (digits_value ds) (omega arith)) in
    ap (λ (t : Bool). cond t (Some (neg_ℤ (pos (digits_value ds)))) None) test ∙ ap (λ (v : ℕ). Some (neg_ℤ (pos v))) value

-- the same for pieces
pub signed_decimals-numbers_of : (ws : List (List ℕ)) (ns : List ℤ) → numbers_of ws ≡ Some ns → list_all is_signed ns ≡ true → ws ≡ map signed_decimal ns
signed_decimals-numbers_of [] ns e all = let same : [] ≡ ns = cc in ap (map signed_decimal) same
signed_decimals-numbers_of (w ∷ ws) ns e all = by (λ ms. signed_decimals-numbers_of ws ms) (number_of w) (numbers_of ws) refl refl e
  where
    by : ((ms : List ℤ) → numbers_of ws ≡ Some ms → list_all is_signed ms ≡ true → ws ≡ map signed_decimal ms) → (n : Option ℤ) (ms : Option (List ℤ)) → number_of w ≡ n → numbers_of ws ≡ ms → with_number n ms ≡ Some ns → (w ∷ ws) ≡ map signed_decimal ns
    by others None ms first rest e = absurd (cc)
    by others (Some n) None first rest e = absurd (cc)
    by others (Some n) (Some ms) first rest e =
        let same : n ∷ ms ≡ ns = cc in
        let parts = and_parts (is_signed n) (list_all is_signed ms) (ap (list_all is_signed) same ∙ all) in
        ap (λ (x : List ℕ). x ∷ ws) (signed_decimal-number_of w n first (ltb-true (nat_abs n) (2 ^ 63) parts.0))
        ∙ ap (λ (l : List (List ℕ)). signed_decimal n ∷ l) (others ms rest parts.1)
        ∙ ap (map signed_decimal) same

pub numbers_of-signed_decimals : (ns : List ℤ) → list_all is_signed ns ≡ true → numbers_of (map signed_decimal ns) ≡ Some ns
numbers_of-signed_decimals [] all = refl
numbers_of-signed_decimals (n ∷ ns) all =
    let parts = and_parts (is_signed n) (list_all is_signed ns) all in
    ap (λ (o : Option ℤ). with_number o (numbers_of (map signed_decimal ns))) (number_of-signed_decimal n (ltb-true (nat_abs n) (2 ^ 63) parts.0))
    ∙ ap (λ (o : Option (List ℤ)). with_number (Some n) o) (numbers_of-signed_decimals ns parts.1)

-- ---- bytes that don't stand in a text

abbrev pub is_free : ℕ → List ℕ → Bool
is_free c bytes = list_all (λ b. not (b == c)) bytes

digits_free : (c : ℕ) (ds : List ℕ) → c < 48 → all_digits ds ≡ true → is_free c ds ≡ true
digits_free c [] low e = refl
digits_free c (d ∷ ds) low e =
    let parts = and_parts (is_digit d) (all_digits ds) e in
    let digit = leb-true 48 d (and_parts (nat_le 48 d) (nat_le d 57) parts.0).0 in
    and_from _ _ (not_from_false (d == c) (ne_eqb d c (λ same. absurd (omega arith)))) (digits_free c ds low parts.1)

-- a number holds no byte below `-`
pub number_free : (c : ℕ) (n : ℤ) → c < 45 → nat_abs n < 2 ^ 63 → is_free c (signed_decimal n) ≡ true
number_free c (pos n) low small = digits_free c (decimal n) (omega arith) (digits_decimal numerals n (omega arith))
number_free c (negsuc n) low small =
    and_from _ _ (not_from_false (45 == c) (ne_eqb 45 c (λ same. absurd (omega arith)))) (digits_free c (decimal (suc n)) (omega arith) (digits_decimal numerals (suc n) (omega arith)))

mag-le-nat_abs : (n : ℤ) → mag n ≤ nat_abs n
mag-le-nat_abs (pos n) = omega arith
mag-le-nat_abs (negsuc n) = omega arith

-- the bytes of numbers with their blanks
pub length-number_words : (ns : List ℤ) → list_all is_signed ns ≡ true → length (flat_map number_word ns) ≤ 21 * length ns
length-number_words [] all = omega arith
length-number_words (n ∷ ns) all =
    let parts = and_parts (is_signed n) (list_all is_signed ns) all in
    let small : nat_abs n < 2 ^ 63 = ltb-true (nat_abs n) (2 ^ 63) parts.0 in
    omega (arith, length-append (number_word n) (flat_map number_word ns), length_signed_le 19 n (omega (arith, mag-le-nat_abs n)) (omega (arith, mag-le-nat_abs n)), length-number_words ns parts.1)
