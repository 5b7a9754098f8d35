-- The text of weights is read back.
use Rattle.std.proofs.Common.{◌≡◌, ℕ, zero, suc, ◌+◌, ◌*◌, ◌^◌, ◌<◌, ◌≤◌, ◌≤ℤ◌, max, Bool, true, false, not, ◌&&◌, ◌||◌, ◌==◌, cond, nat_lt, nat_le, List, [], ◌∷◌, ◌++◌, length, take, drop, map, get_or, ℤ, pos, negsuc, nat_abs, unsigned_abs, int_lt, ◌≢◌, ◌⊎◌, Ok, Err, codes, refl, sym, ◌∙◌, ap, subst, inl, inr, append_assoc, arith}
use Rattle.std.specs.Fmt.{signed_decimal}
use Rattle.std.specs.List.{fold, list_all, list_any, flat_map, join_with_byte, position_or_len, prefix_len}
use Rattle.std.proofs.Math.Seq.{take-append_seam}
use Rattle.std.proofs.lemmas.Bool.{and_parts, and_from, ne_eqb, le-leb, leb-true, cases_lt}
use Rattle.std.proofs.lemmas.Bool.Decides.{nat_tests}
use Rattle.std.proofs.lemmas.Int.{ints}
use Rattle.std.proofs.lemmas.List.{length-map, map-append, map-id, take_all, drop_all, get_or_default}
use Rattle.std.proofs.lemmas.List.Folds.{list_all-append}
use Rattle.std.proofs.lemmas.List.Sums.{list_all-from_AllPass}
use Rattle.lop_desk.specs.Number.{whole_value, is_whole_word}
use Rattle.lop_model.specs.Matrix.{Matrix, IsWeights, matrix_of, entry, pair_absolute, absolute_total}
use Rattle.lop_model.proofs.SumLemmas.{pair_sum-le, pair_sum-one}
use Rattle.lop_lolib.specs.Words.{is_separator, words_of}
use Rattle.lop_lolib.specs.Title.{first_line, from_first_word, to_line_end, is_line_end, is_title, to_last_word}
use Rattle.lop_lolib.specs.Number.{is_decimal_word, decimal_count, digits_of}
use Rattle.lop_lolib.specs.Units.{most_decimals}
use Rattle.lop_lolib.specs.Reading.{lolib_reading, titled, body_reading, words_reading, size_reading, rows_reading, is_entry_word}
use Rattle.lop_lolib.specs.declared.refusal.LolibRefusal.TheVariants.{SizeRange, TooHeavy, BadSize}
use Rattle.lop_lolib.proofs.WordsLemmas.{words_of-separator, words_of-word_alone}
use Rattle.lop_lolib.proofs.EntriesLemmas.{AreFirstEntries, first_entries-numbers, rows_reading-all}
use Rattle.lop_lolib.proofs.UnitsLemmas.{units-whole, units_reading-narrow}
use Rattle.lop_lolib.proofs.WholeLemmas.{whole-number as whole_is_number, whole-entry}
use Rattle.lop_gen.specs.Text.{row_line, lolib_text, plain_file, HasNarrowDiagonal}
use Rattle.lop_gen.proofs.RowLemmas.{length-rows, rows-matrix_of}
use Rattle.lop_gen.proofs.NumberLemmas.{is_free, number_free, number_some, whole_value-number, whole-number, number_word, position-alone, words_of-front}

-- a number that a text of weights may hold
abbrev pub is_narrow : ℤ → Bool
is_narrow z = nat_le (nat_abs z) (10 ^ 18)

abbrev pub are_narrow : List ℤ → Bool
are_narrow row = list_all is_narrow row

narrow-bound : (z : ℤ) → is_narrow z ≡ true → nat_abs z ≤ 10 ^ 18
narrow-bound z e = leb-true (nat_abs z) (10 ^ 18) e

-- the words of a row's line, and of what is behind it
words_of-row : (row : List ℤ) (rest : List ℕ) → are_narrow row ≡ true → words_of (join_with_byte 32 (map signed_decimal row) ++ (10 ∷ rest)) ≡ map signed_decimal row ++ words_of rest
words_of-row [] rest narrow = words_of-separator 10 rest refl
words_of-row (z ∷ []) rest narrow =
    let small = narrow-bound z (and_parts (is_narrow z) true narrow).0 in
    words_of-front (signed_decimal z) 10 rest (number_some z small) (number_free z small) refl
words_of-row (z ∷ y ∷ zs) rest narrow =
    let parts = and_parts (is_narrow z) (are_narrow (y ∷ zs)) narrow in
    let small = narrow-bound z parts.0 in
    let others : List ℕ = join_with_byte 32 (map signed_decimal (y ∷ zs)) in
    ap words_of (append_assoc (signed_decimal z) (32 ∷ others) (10 ∷ rest))
    ∙ words_of-front (signed_decimal z) 32 (others ++ (10 ∷ rest)) (number_some z small) (number_free z small) refl
    ∙ ap (λ (l : List (List ℕ)). signed_decimal z ∷ l) (words_of-row (y ∷ zs) rest parts.1)

abbrev pub flat : List (List ℤ) → List ℤ
flat rows = flat_map (λ r. r) rows

words_of-rows : (rows : List (List ℤ)) → list_all are_narrow rows ≡ true → words_of (flat_map row_line rows) ≡ map signed_decimal (flat rows)
words_of-rows [] narrow = refl
words_of-rows (row ∷ rows) narrow =
    let parts = and_parts (are_narrow row) (list_all are_narrow rows) narrow in
    ap words_of (append_assoc (join_with_byte 32 (map signed_decimal row)) (codes "\n") (flat_map row_line rows))
    ∙ words_of-row row (flat_map row_line rows) parts.0
    ∙ ap (λ (l : List (List ℕ)). map signed_decimal row ++ l) (words_of-rows rows parts.1)
    ∙ sym (map-append signed_decimal row (flat rows))

flat_narrow : (rows : List (List ℤ)) → list_all are_narrow rows ≡ true → are_narrow (flat rows) ≡ true
flat_narrow [] narrow = refl
flat_narrow (row ∷ rows) narrow =
    let parts = and_parts (are_narrow row) (list_all are_narrow rows) narrow in
    list_all-append is_narrow row (flat rows) ∙ and_from _ _ parts.0 (flat_narrow rows parts.1)

-- the numbers of the words
values_back : (zs : List ℤ) → are_narrow zs ≡ true → map digits_of (map signed_decimal zs) ≡ zs
values_back [] narrow = refl
values_back (z ∷ zs) narrow =
    let parts = and_parts (is_narrow z) (are_narrow zs) narrow in
    let small = narrow-bound z parts.0 in
    let first : digits_of (signed_decimal z) ≡ z = (whole_is_number (signed_decimal z) (whole-number z small)).2 ∙ whole_value-number z small in
    let others = values_back zs parts.1 in
    cc (first, others)

-- which have no decimals
counts_back : (zs : List ℤ) → are_narrow zs ≡ true → most_decimals (map signed_decimal zs) ≡ 0
counts_back [] narrow = refl
counts_back (z ∷ zs) narrow =
    let parts = and_parts (is_narrow z) (are_narrow zs) narrow in
    let none : decimal_count (signed_decimal z) ≡ 0 = (whole_is_number (signed_decimal z) (whole-number z (narrow-bound z parts.0))).1 in
    let first : max 0 (decimal_count (signed_decimal z)) ≡ 0 = omega (arith, none) in
    ap (λ (k : ℕ). fold max k (map decimal_count (map signed_decimal zs))) first ∙ counts_back zs parts.1

entries_back : (zs : List ℤ) → are_narrow zs ≡ true → (k : ℕ) → k < length zs → is_entry_word (get_or (map signed_decimal zs) k []) ≡ true
entries_back [] narrow k below = absurd (omega arith)
entries_back (z ∷ zs) narrow zero below = whole-entry (signed_decimal z) (number_word z (narrow-bound z (and_parts (is_narrow z) (are_narrow zs) narrow).0))
entries_back (z ∷ zs) narrow (suc k) below = entries_back zs (and_parts (is_narrow z) (are_narrow zs) narrow).1 k (omega arith)

all_read : (zs : List ℤ) → are_narrow zs ≡ true → AreFirstEntries (map signed_decimal zs) [] zs (map decimal_count (map signed_decimal zs)) 0
all_read zs narrow =
    let words = map signed_decimal zs in
    let many : length words ≡ length zs = length-map zs signed_decimal in
    let front : take (length zs) words ≡ words = take_all (length zs) words (omega (arith, many)) in
    record {
      present = omega (arith, many);
      entries = entries_back zs narrow;
      values = sym (ap (map digits_of) front ∙ values_back zs narrow);
      counts = sym (ap (map decimal_count) front);
      greatest = sym (ap most_decimals front ∙ counts_back zs narrow);
      left = sym (drop_all (length zs) words (omega (arith, many)));
    }

-- ---- the entries of weights are narrow

same_abs : (z : ℤ) → unsigned_abs z ≡ nat_abs z
same_abs (pos n) = refl
same_abs (negsuc n) = refl

-- one pair of the absolute sum
pair_within : (C : Matrix) (a b : ℕ) → a < b → b < C.size → pair_absolute C a b ≤ℤ absolute_total C
pair_within C a b less below =
    let one : ℕ → ℕ → ℤ = λ i j. cond (i == a && j == b) (pair_absolute C i j) (pos 0) in
    let here : (a == a && b == b) ≡ true = and_from _ _ (same_is a) (same_is b) in
    let alone = pair_sum-one C.size a b one less below (λ i j lower inside other. ap (λ (t : Bool). cond t (pair_absolute C i j) (pos 0)) (apart i j other)) in
    let at : one a b ≡ pair_absolute C a b = ap (λ (t : Bool). cond t (pair_absolute C a b) (pos 0)) here in
    let all = pair_sum-le C.size one (pair_absolute C) (λ i j lower inside. at_most (i == a && j == b) (unsigned_abs (entry C i j) + unsigned_abs (entry C j i))) in
    let P : ℤ → Type 0 = λ x. x ≤ℤ absolute_total C in subst P (alone ∙ at) all
  where
    same_is : (k : ℕ) → (k == k) ≡ true
    same_is k = grind (arith, nat_tests)

    apart : (i j : ℕ) → (i ≢ a) ⊎ (j ≢ b) → (i == a && j == b) ≡ false
    apart i j (inl first) = ap (λ (t : Bool). t && j == b) (ne_eqb i a first)
    apart i j (inr second) = ap (λ (t : Bool). (i == a) && t) (ne_eqb j b second) ∙ and_false (i == a)
      where
        and_false : (t : Bool) → (t && false) ≡ false
        and_false true = refl
        and_false false = refl

    at_most : (t : Bool) (k : ℕ) → cond t (pos k) (pos 0) ≤ℤ pos k
    at_most true k = omega (arith, ints)
    at_most false k = omega (arith, ints)

entry_within : (C : Matrix) → IsWeights C → HasNarrowDiagonal C → (i j : ℕ) → i < C.size → j < C.size → nat_abs (entry C i j) ≤ 10 ^ 18
entry_within C w diagonal i j row column =
    elim (cases_lt i j) [
      | inl before ↦ let pair = pair_within C i j before column in let sum = w.bounded_sum in omega (arith, ints, pair, sum, same_abs (entry C i j))
      | inr not_before ↦ elim (cases_lt j i) [
        | inl after ↦ let pair = pair_within C j i after row in let sum = w.bounded_sum in omega (arith, ints, pair, sum, same_abs (entry C i j))
        | inr same ↦ let equal : i ≡ j = omega arith in let P : ℕ → Type 0 = λ k. nat_abs (entry C i k) ≤ 10 ^ 18 in subst P equal (diagonal.each i row)
      ]
    ]

rows_narrow : (C : Matrix) → IsWeights C → HasNarrowDiagonal C → list_all are_narrow C.rows ≡ true
rows_narrow C w diagonal =
    list_all-from_AllPass are_narrow C.rows (λ i d below.
    let row : i < C.size = omega (arith, w.rows) in
    ap are_narrow (get_or_default C.rows i d [] below)
    ∙ list_all-from_AllPass is_narrow (get_or C.rows i []) (λ j e inside.
    let column : j < C.size = omega (arith, w.columns i row) in
    ap is_narrow (get_or_default (get_or C.rows i []) j e (pos 0) inside) ∙ le-leb _ _ (entry_within C w diagonal i j row column)))

-- ---- no title, and the size

starts : (word rest : List ℕ) → 0 < length word → is_free word ≡ true → prefix_len is_separator (word ++ rest) ≡ 0
starts [] rest some free = absurd (omega arith)
starts (x ∷ xs) rest some free =
    let none : is_separator x ≡ false = not_true (is_separator x) (and_parts (not (is_separator x)) (is_free xs) free).0 in
    ap (λ (t : Bool). cond t (1 + prefix_len is_separator (xs ++ rest)) 0) none
  where
    not_true : (t : Bool) → not t ≡ true → t ≡ false
    not_true true e = absurd (cc)
    not_true false e = refl

line_front : (word rest : List ℕ) → is_free word ≡ true → position_or_len is_line_end (word ++ 10 ∷ rest) ≡ length word
line_front [] rest free = refl
line_front (x ∷ xs) rest free =
    let parts = and_parts (not (is_separator x)) (is_free xs) free in
    let others = line_front xs rest parts.1 in
    let no_end : is_line_end x ≡ false = by (x == 32) (x == 9) (x == 13) (x == 10) parts.0 in
    ap (λ (t : Bool). cond (not t) (1 + position_or_len is_line_end (xs ++ 10 ∷ rest)) 0) no_end ∙ (omega (arith, others))
  where
    by : (a b c d : Bool) → not (a || b || c || d) ≡ true → d ≡ false
    by a b c false e = refl
    by true b c true e = absurd (cc)
    by false true c true e = absurd (cc)
    by false false true true e = absurd (cc)
    by false false false true e = absurd (cc)

module _ (word rest : List ℕ) (some : 0 < length word) (free : is_free word ≡ true) (whole : is_whole_word word ≡ true) where
  abbrev text : List ℕ
  text = word ++ 10 ∷ rest

  first_line_is : first_line text ≡ word
  first_line_is =
      let from : from_first_word text ≡ text = ap (λ (k : ℕ). drop k text) (starts word (10 ∷ rest) some free) in
      ap to_line_end from ∙ ap (λ (k : ℕ). take k text) (line_front word rest free) ∙ take-append_seam word (10 ∷ rest)

  no_title : is_title (first_line text) ≡ false
  no_title =
      ap is_title first_line_is
      ∙ ap (λ (ws : List (List ℕ)). list_any (λ v. not (is_decimal_word v)) ws) (words_of-word_alone word some (position-alone word free))
      ∙ ap (λ (t : Bool). not t || false) (whole_is_number word whole).0

  untitled : lolib_reading text ≡ titled [] (body_reading 0 text)
  untitled =
      ap (λ (t : Bool). titled (cond t (to_last_word (first_line text)) []) (body_reading (cond t (prefix_len is_separator text + length (first_line text)) 0) (drop (cond t (prefix_len is_separator text + length (first_line text)) 0) text))) no_title

int_lt-not : (x y : ℤ) → y ≤ℤ x → int_lt x y ≡ false
int_lt-not x y le = grind (arith, ints)

is_not_less : (a b : ℕ) → b ≤ a → nat_lt a b ≡ false
is_not_less a b other = grind (arith, nat_tests)

-- the numbers behind the size
rows_back : (C : Matrix) → IsWeights C → list_all are_narrow C.rows ≡ true → rows_reading C.size (map signed_decimal (flat C.rows)) ≡ Ok (plain_file C)
rows_back C w narrow =
    let n = C.size in
    let zs : List ℤ = flat C.rows in
    let each : (k : ℕ) (e : List ℤ) → k < length C.rows → length (get_or C.rows k e) ≡ n = λ k e below. ap length (get_or_default C.rows k e [] below) ∙ w.columns k (omega (arith, w.rows)) in
    let full : length zs ≡ n * n = length-rows (λ r. r) n C.rows each ∙ ap (λ (k : ℕ). k * n) w.rows in
    let cut : (matrix_of n zs).rows ≡ C.rows = rows-matrix_of (λ r. r) n C.rows w.rows each ∙ map-id C.rows in
    let same : matrix_of n zs ≡ C = ap (λ (r : List (List ℤ)). let M : Matrix = record { size = n; rows = r } in M) cut in
    let words = map signed_decimal zs in
    let counts = map decimal_count words in
    let small = flat_narrow C.rows narrow in
    let read = all_read zs small in
    let are = first_entries-numbers words [] zs counts 0 read n full in
    rows_reading-all words [] zs counts 0 read n full
    ∙ units_reading-narrow n 0 0 (take (n * n) words) zs counts are zs refl (units-whole zs counts (λ i below. are.narrow i (pos 0) below))
    ∙ ap (λ (M : Matrix). cond (int_lt (pos (10 ^ 18)) (absolute_total M)) (Err (TooHeavy (absolute_total M))) (Ok (plain_file M))) same
    ∙ ap (λ (t : Bool). cond t (Err (TooHeavy (absolute_total C))) (Ok (plain_file C))) (int_lt-not (pos (10 ^ 18)) (absolute_total C) w.bounded_sum)

-- the text of weights is read as them
pub read_back : (C : Matrix) → IsWeights C → HasNarrowDiagonal C → lolib_reading (lolib_text C) ≡ Ok (plain_file C)
read_back C w diagonal =
    let n = C.size in
    let word = signed_decimal (pos n) in
    let rest = flat_map row_line C.rows in
    let narrow = rows_narrow C w diagonal in
    let small : nat_abs (pos n) ≤ 10 ^ 18 = omega (arith, w.within_limit) in
    let some = number_some (pos n) small in
    let free = number_free (pos n) small in
    let ws = map signed_decimal (flat C.rows) in
    let words : words_of (word ++ 10 ∷ rest) ≡ word ∷ ws = words_of-front word 10 rest some free refl ∙ ap (λ (l : List (List ℕ)). word ∷ l) (words_of-rows C.rows narrow) in
    let position = 0 + prefix_len is_separator (word ++ 10 ∷ rest) in
    let sized : size_reading (pos n) ws ≡ rows_reading n ws =
    ap (λ (t : Bool). cond (t || nat_lt 512 n) (Err (SizeRange (pos n))) (rows_reading n ws)) (is_not_less n 1 w.positive)
    ∙ ap (λ (t : Bool). cond t (Err (SizeRange (pos n))) (rows_reading n ws)) (is_not_less 512 n w.within_limit) in
    let body : body_reading 0 (word ++ 10 ∷ rest) ≡ Ok (plain_file C) =
    ap (words_reading position) words
    ∙ ap (λ (t : Bool). cond t (size_reading (whole_value word) ws) (Err (BadSize position))) (number_word (pos n) small)
    ∙ ap (λ (z : ℤ). size_reading z ws) (whole_value-number (pos n) small)
    ∙ sized
    ∙ rows_back C w narrow in
    ap lolib_reading (append_assoc word (codes "\n") rest)
    ∙ untitled word rest some free (whole-number (pos n) small)
    ∙ ap (titled []) body
