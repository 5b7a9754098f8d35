-- A certificate's line: a first word, and numbers with one blank before each.
use Rattle.std.specs.Prelude.{ℕ, zero, suc, ◌^◌, Bool, true, false, ◌&&◌, ◌==◌, nat_lt, int_le, List, [], ◌∷◌, ◌++◌, codes, ℤ, pos, negsuc, neg_ℤ, nat_abs, Option, None, Some, if◌then◌else◌}
use Rattle.std.specs.Fmt.{signed_decimal}
use Rattle.std.specs.List.{flat_map, list_all, slice_split}
use Rattle.std.specs.Str.{bytes_eq}
use Rattle.lop_desk.specs.Number.{digits_value, is_plain_word}
use Rattle.lop_certtext.specs.declared.limits.TheConstants.{MAX_CUTS, MAX_RECORDS}
use Rattle.lop_certtext.specs.declared.word.CertWord.{CertWord}
use Rattle.lop_certtext.specs.declared.word.CertWord.TheVariants.{Version, Objects, OrderLine, Value, Bound, Cuts, Dicycle, Fence, Ladder, RecordsLine, RecordLine, SplitLine, Leaf, End}

pub record CertLine : Type 0 where
  pub word : CertWord
  pub numbers : List ℤ

abbrev pub word_text : CertWord → List ℕ
word_text Version = codes "lopcert"
word_text Objects = codes "objects"
word_text OrderLine = codes "order"
word_text Value = codes "value"
word_text Bound = codes "bound"
word_text Cuts = codes "cuts"
word_text Dicycle = codes "dicycle"
word_text Fence = codes "fence"
word_text Ladder = codes "ladder"
word_text RecordsLine = codes "records"
word_text RecordLine = codes "record"
word_text SplitLine = codes "split"
word_text Leaf = codes "leaf"
word_text End = codes "end"

-- a number of at most 2^63 - 1
abbrev pub is_count : ℤ → Bool
is_count (pos n) = nat_lt n (2 ^ 63)
is_count (negsuc n) = false

-- the same in absolute value
abbrev pub is_signed : ℤ → Bool
is_signed n = nat_lt (nat_abs n) (2 ^ 63)

-- a number from 0 to a limit
abbrev pub is_at_most : ℕ → ℤ → Bool
is_at_most limit n = int_le (pos 0) n && int_le n (pos limit)

-- one number or more, each of at most 2^63 - 1
abbrev pub are_counts : List ℤ → Bool
are_counts [] = false
are_counts (n ∷ ns) = list_all is_count (n ∷ ns)

-- the numbers that may stand behind a word
abbrev pub is_row : CertWord → List ℤ → Bool
is_row Version (pos (suc zero) ∷ []) = true
is_row Version (pos (suc (suc zero)) ∷ []) = true
is_row Objects (n ∷ []) = is_count n
is_row OrderLine ns = are_counts ns
is_row Value (n ∷ []) = is_signed n
is_row Bound (n ∷ []) = is_signed n
is_row Cuts (n ∷ []) = is_at_most MAX_CUTS n
is_row Dicycle ns = are_counts ns
is_row Fence ns = are_counts ns
is_row Ladder ns = are_counts ns
is_row RecordsLine (n ∷ []) = is_at_most MAX_RECORDS n
is_row RecordLine ns = are_counts ns
is_row SplitLine ns = are_counts ns
is_row Leaf ns = are_counts ns
is_row End [] = true
is_row word ns = false

-- the one spelling of a line, without its LF
abbrev pub line_text : CertLine → List ℕ
line_text l = word_text l.word ++ flat_map (λ n. 32 ∷ signed_decimal n) l.numbers

-- the number that a word spells: a `-` may stand before digits that aren't `0`
abbrev pub number_of : List ℕ → Option ℤ
number_of [] = None
number_of (b ∷ bs) =
    if b == 45 then (if is_plain_word bs && nat_lt 0 (digits_value bs) then Some (neg_ℤ (pos (digits_value bs))) else None)
    else (if is_plain_word (b ∷ bs) then Some (pos (digits_value (b ∷ bs))) else None)

abbrev pub with_number : Option ℤ → Option (List ℤ) → Option (List ℤ)
with_number None ns = None
with_number (Some n) None = None
with_number (Some n) (Some ns) = Some (n ∷ ns)

-- the numbers that words spell, if each spells one
abbrev pub numbers_of : List (List ℕ) → Option (List ℤ)
numbers_of [] = Some []
numbers_of (w ∷ ws) = with_number (number_of w) (numbers_of ws)

-- the first word that a text is
abbrev pub first_word : List CertWord → List ℕ → Option CertWord
first_word [] text = None
first_word (w ∷ ws) text = if bytes_eq (word_text w) text then Some w else first_word ws text

abbrev pub cert_words : List CertWord
cert_words = Version ∷ Objects ∷ OrderLine ∷ Value ∷ Bound ∷ Cuts ∷ Dicycle ∷ Fence ∷ Ladder ∷ RecordsLine ∷ RecordLine ∷ SplitLine ∷ Leaf ∷ End ∷ []

-- a word and numbers that may stand behind it
abbrev pub row_of : Option CertWord → Option (List ℤ) → Option CertLine
row_of None ns = None
row_of (Some w) None = None
row_of (Some w) (Some ns) = if is_row w ns then Some (record { word = w; numbers = ns }) else None

abbrev pub pieces_reading : List (List ℕ) → Option CertLine
pieces_reading [] = None
pieces_reading (w ∷ ws) = row_of (first_word cert_words w) (numbers_of ws)

-- what the bytes of a line, without its LF, spell: pieces between single blanks
abbrev pub line_reading : List ℕ → Option CertLine
line_reading bytes = pieces_reading (slice_split (λ b. b == 32) bytes)
