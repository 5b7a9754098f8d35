-- A line and its one spelling.
use Rattle.std.proofs.Common.{◌≡◌, ℕ, ◌+◌, ◌*◌, ◌^◌, ◌<◌, ◌≤◌, zero, suc, Bool, true, false, not, ◌==◌, cond, List, [], ◌∷◌, ◌++◌, length, map, ℤ, pos, negsuc, nat_abs, Option, None, Some, refl, sym, ◌∙◌, ap, arith}
use Rattle.std.specs.Prelude.{int_le}
use Rattle.std.specs.Fmt.{signed_decimal}
use Rattle.std.specs.List.{list_all, flat_map, join_with_byte, All}
use Rattle.std.specs.Str.{bytes_eq}
use Rattle.std.proofs.lemmas.Bool.{and_parts, and_from, false≢true, not-true, ltb-true, leb-true, lt-ltb}
use Rattle.std.proofs.lemmas.List.{append-nil, length-append}
use Rattle.std.proofs.lemmas.List.Folds.{list_all-append}
use Rattle.std.proofs.lemmas.List.Splits.{join_with_byte-slice_split, slice_split_none, slice_split_at}
use Rattle.std.proofs.lemmas.Slice.Eq.{bytes_eq-Decides}
use Rattle.lop_certtext.specs.declared.limits.TheConstants.{MAX_CUTS, MAX_RECORDS}
use Rattle.lop_certtext.specs.declared.word.CertWord.{CertWord}
use Rattle.lop_certtext.specs.declared.word.CertWord.TheVariants.{Version, Objects, OrderLine, Value, Bound, Cuts, Dicycle, Fence, Ladder, RecordsLine, RecordLine, SplitLine, Leaf, End}
use Rattle.lop_certtext.specs.Line.{CertLine, word_text, is_at_most, is_count, is_signed, are_counts, is_row, line_text, numbers_of, first_word, cert_words, row_of, pieces_reading, line_reading}
use Rattle.lop_certtext.specs.Reading.{pieces, number_word}
use Rattle.lop_certtext.proofs.Numbers.{is_free, number_free, signed_decimals-numbers_of, numbers_of-signed_decimals, length-number_words}

-- ---- rows

is_signed-count : (n : ℤ) → is_count n ≡ true → is_signed n ≡ true
is_signed-count (pos n) e = e
is_signed-count (negsuc n) e = absurd (false≢true e)

all_signed-counts : (ns : List ℤ) → list_all is_count ns ≡ true → list_all is_signed ns ≡ true
all_signed-counts [] e = refl
all_signed-counts (n ∷ ns) e =
    let parts = and_parts (is_count n) (list_all is_count ns) e in
    and_from _ _ (is_signed-count n parts.0) (all_signed-counts ns parts.1)

all_signed-are_counts : (ns : List ℤ) → are_counts ns ≡ true → list_all is_signed ns ≡ true
all_signed-are_counts [] e = absurd (false≢true e)
all_signed-are_counts (n ∷ ns) e = all_signed-counts (n ∷ ns) e

small_count : (limit : ℕ) (n : ℤ) → limit < 2 ^ 63 → is_at_most limit n ≡ true → is_signed n ≡ true
small_count limit (pos n) small e =
    let most : n ≤ limit = leb-true n limit (and_parts (int_le (pos 0) (pos n)) (int_le (pos n) (pos limit)) e).1 in
    lt-ltb n (2 ^ 63) (omega arith)
small_count limit (negsuc n) small e = absurd (false≢true e)

-- the numbers behind a word are at most 2^63 - 1 in absolute value
pub all_signed-row : (w : CertWord) (ns : List ℤ) → is_row w ns ≡ true → list_all is_signed ns ≡ true
all_signed-row Version (pos (suc zero) ∷ []) e = refl
all_signed-row Version (pos (suc (suc zero)) ∷ []) e = refl
all_signed-row Objects (n ∷ []) e = and_from _ _ (is_signed-count n e) refl
all_signed-row OrderLine ns e = all_signed-are_counts ns e
all_signed-row Value (n ∷ []) e = and_from _ _ e refl
all_signed-row Bound (n ∷ []) e = and_from _ _ e refl
all_signed-row Cuts (n ∷ []) e = and_from _ _ (small_count MAX_CUTS n (omega arith) e) refl
all_signed-row Dicycle ns e = all_signed-are_counts ns e
all_signed-row Fence ns e = all_signed-are_counts ns e
all_signed-row Ladder ns e = all_signed-are_counts ns e
all_signed-row RecordsLine (n ∷ []) e = and_from _ _ (small_count MAX_RECORDS n (omega arith) e) refl
all_signed-row RecordLine ns e = all_signed-are_counts ns e
all_signed-row SplitLine ns e = all_signed-are_counts ns e
all_signed-row Leaf ns e = all_signed-are_counts ns e
all_signed-row End [] e = refl
all_signed-row w ns e = absurd (false≢true e)

-- ---- first words

word_text-first_word : (ws : List CertWord) (text : List ℕ) (w : CertWord) → first_word ws text ≡ Some w → word_text w ≡ text
word_text-first_word [] text w e = absurd (cc)
word_text-first_word (v ∷ ws) text w e = by (word_text-first_word ws text w) (bytes_eq (word_text v) text) refl e
  where
    by : (first_word ws text ≡ Some w → word_text w ≡ text) → (t : Bool) → bytes_eq (word_text v) text ≡ t → cond t (Some v) (first_word ws text) ≡ Some w → word_text w ≡ text
    by others true is e = let same : v ≡ w = cc in ap word_text (sym same) ∙ (bytes_eq-Decides (word_text v) text).0 is
    by others false is e = others e

first_word-word_text : (w : CertWord) → first_word cert_words (word_text w) ≡ Some w
first_word-word_text Version = refl
first_word-word_text Objects = refl
first_word-word_text OrderLine = refl
first_word-word_text Value = refl
first_word-word_text Bound = refl
first_word-word_text Cuts = refl
first_word-word_text Dicycle = refl
first_word-word_text Fence = refl
first_word-word_text Ladder = refl
first_word-word_text RecordsLine = refl
first_word-word_text RecordLine = refl
first_word-word_text SplitLine = refl
first_word-word_text Leaf = refl
first_word-word_text End = refl

blank_free-word_text : (w : CertWord) → is_free 32 (word_text w) ≡ true
blank_free-word_text Version = refl
blank_free-word_text Objects = refl
blank_free-word_text OrderLine = refl
blank_free-word_text Value = refl
blank_free-word_text Bound = refl
blank_free-word_text Cuts = refl
blank_free-word_text Dicycle = refl
blank_free-word_text Fence = refl
blank_free-word_text Ladder = refl
blank_free-word_text RecordsLine = refl
blank_free-word_text RecordLine = refl
blank_free-word_text SplitLine = refl
blank_free-word_text Leaf = refl
blank_free-word_text End = refl

lf_free-word_text : (w : CertWord) → is_free 10 (word_text w) ≡ true
lf_free-word_text Version = refl
lf_free-word_text Objects = refl
lf_free-word_text OrderLine = refl
lf_free-word_text Value = refl
lf_free-word_text Bound = refl
lf_free-word_text Cuts = refl
lf_free-word_text Dicycle = refl
lf_free-word_text Fence = refl
lf_free-word_text Ladder = refl
lf_free-word_text RecordsLine = refl
lf_free-word_text RecordLine = refl
lf_free-word_text SplitLine = refl
lf_free-word_text Leaf = refl
lf_free-word_text End = refl

pub length-word_text : (w : CertWord) → length (word_text w) ≤ 7
length-word_text Version = omega arith
length-word_text Objects = omega arith
length-word_text OrderLine = omega arith
length-word_text Value = omega arith
length-word_text Bound = omega arith
length-word_text Cuts = omega arith
length-word_text Dicycle = omega arith
length-word_text Fence = omega arith
length-word_text Ladder = omega arith
length-word_text RecordsLine = omega arith
length-word_text RecordLine = omega arith
length-word_text SplitLine = omega arith
length-word_text Leaf = omega arith
length-word_text End = omega arith

-- ---- pieces

pub All-from_free : (c : ℕ) (bytes : List ℕ) → is_free c bytes ≡ true → All (λ b. (b == c) ≡ false) bytes
All-from_free c [] e k d within = absurd (omega arith)
All-from_free c (b ∷ bytes) e zero d within = not-true (b == c) (and_parts (not (b == c)) (is_free c bytes) e).0
All-from_free c (b ∷ bytes) e (suc k) d within = All-from_free c bytes (and_parts (not (b == c)) (is_free c bytes) e).1 k d (omega arith)

-- the pieces of a word and numbers behind it
pieces-line : (word : List ℕ) (ns : List ℤ) → is_free 32 word ≡ true → list_all is_signed ns ≡ true → pieces (word ++ flat_map number_word ns) ≡ word ∷ map signed_decimal ns
pieces-line word [] free all = ap pieces (append-nil word) ∙ slice_split_none (λ b. b == 32) word (All-from_free 32 word free)
pieces-line word (n ∷ ns) free all =
    let parts = and_parts (is_signed n) (list_all is_signed ns) all in
    let others = flat_map number_word ns in
    slice_split_at (λ b. b == 32) word 32 (signed_decimal n ++ others) (All-from_free 32 word free) refl
    ∙ ap (λ (l : List (List ℕ)). word ∷ l) (pieces-line (signed_decimal n) ns (number_free 32 n (omega arith) (ltb-true (nat_abs n) (2 ^ 63) parts.0)) parts.1)

-- and back
joined-line : (word : List ℕ) (ns : List ℤ) → join_with_byte 32 (word ∷ map signed_decimal ns) ≡ word ++ flat_map number_word ns
joined-line word [] = sym (append-nil word)
joined-line word (n ∷ ns) = ap (λ (l : List ℕ). word ++ 32 ∷ l) (joined-line (signed_decimal n) ns)

joined-pieces_reading : (ps : List (List ℕ)) (l : CertLine) → pieces_reading ps ≡ Some l → join_with_byte 32 ps ≡ line_text l
joined-pieces_reading [] l e = absurd (cc)
joined-pieces_reading (p ∷ ps) l e = by (first_word cert_words p) (numbers_of ps) refl refl e
  where
    row : (w : CertWord) (ns : List ℤ) (t : Bool) → is_row w ns ≡ t → first_word cert_words p ≡ Some w → numbers_of ps ≡ Some ns → cond t (Some (record { word = w; numbers = ns })) None ≡ Some l → join_with_byte 32 (p ∷ ps) ≡ line_text l
    row w ns false is first rest e = absurd (cc)
    row w ns true is first rest e =
        let line : CertLine = record { word = w; numbers = ns } in
        let same : line ≡ l = cc in
        ap (λ (x : List ℕ). join_with_byte 32 (x ∷ ps)) (sym (word_text-first_word cert_words p w first))
        ∙ ap (λ (xs : List (List ℕ)). join_with_byte 32 (word_text w ∷ xs)) (signed_decimals-numbers_of ps ns rest (all_signed-row w ns is))
        ∙ joined-line (word_text w) ns
        ∙ ap line_text same

    by : (w : Option CertWord) (ns : Option (List ℤ)) → first_word cert_words p ≡ w → numbers_of ps ≡ ns → row_of w ns ≡ Some l → join_with_byte 32 (p ∷ ps) ≡ line_text l
    by None ns first rest e = absurd (cc)
    by (Some w) None first rest e = absurd (cc)
    by (Some w) (Some ns) first rest e = row w ns (is_row w ns) refl first rest e

-- ---- the two ways

-- what is read is spelled so
pub line_text-line_reading : (bytes : List ℕ) (l : CertLine) → line_reading bytes ≡ Some l → bytes ≡ line_text l
line_text-line_reading bytes l e = sym (join_with_byte-slice_split 32 bytes) ∙ joined-pieces_reading (pieces bytes) l e

-- what is spelled so is read
pub line_reading-line_text : (l : CertLine) → is_row l.word l.numbers ≡ true → line_reading (line_text l) ≡ Some l
line_reading-line_text l e =
    let all = all_signed-row l.word l.numbers e in
    ap pieces_reading (pieces-line (word_text l.word) l.numbers (blank_free-word_text l.word) all)
    ∙ ap (λ (w : Option CertWord). row_of w (numbers_of (map signed_decimal l.numbers))) (first_word-word_text l.word)
    ∙ ap (λ (ns : Option (List ℤ)). row_of (Some l.word) ns) (numbers_of-signed_decimals l.numbers all)
    ∙ ap (λ (t : Bool). cond t (Some l) None) e

-- ---- what else a line's text is

lf_free-number_words : (ns : List ℤ) → list_all is_signed ns ≡ true → is_free 10 (flat_map number_word ns) ≡ true
lf_free-number_words [] all = refl
lf_free-number_words (n ∷ ns) all =
    let parts = and_parts (is_signed n) (list_all is_signed ns) all in
    list_all-append (λ b. not (b == 10)) (number_word n) (flat_map number_word ns)
    ∙ and_from _ _ (number_free 10 n (omega arith) (ltb-true (nat_abs n) (2 ^ 63) parts.0)) (lf_free-number_words ns parts.1)

-- no LF stands in it
pub lf_free-line_text : (l : CertLine) → is_row l.word l.numbers ≡ true → is_free 10 (line_text l) ≡ true
lf_free-line_text l e =
    list_all-append (λ b. not (b == 10)) (word_text l.word) (flat_map number_word l.numbers)
    ∙ and_from _ _ (lf_free-word_text l.word) (lf_free-number_words l.numbers (all_signed-row l.word l.numbers e))

-- its length, without its LF
pub length-line_text : (l : CertLine) → is_row l.word l.numbers ≡ true → length (line_text l) ≤ 7 + 21 * length l.numbers
length-line_text l e =
    omega (arith, length-append (word_text l.word) (flat_map number_word l.numbers), length-word_text l.word, length-number_words l.numbers (all_signed-row l.word l.numbers e))
