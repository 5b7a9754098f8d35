-- What a LOLIB text means.
use Rattle.std.specs.Prelude.{◌≡◌, ℕ, ◌+◌, ◌-◌, ◌*◌, ◌&&◌, ◌||◌, Bool, nat_lt, nat_le, List, [], ◌∷◌, length, map, take, drop, slice_index_or, ℤ, pos, int_lt, nat_abs, if◌then◌else◌, Result, Ok, Err}
use Rattle.std.specs.List.{prefix_len}
use Rattle.lop_desk.specs.Number.{whole_value}
use Rattle.lop_model.specs.declared.weights.TheConstants.{MAX_ABSOLUTE_SUM, MAX_OBJECTS}
use Rattle.lop_model.specs.Matrix.{matrix_of, absolute_total}
use Rattle.lop_lolib.specs.declared.number.TheConstants.{MAX_DECIMALS, MAX_NUMBER}
use Rattle.lop_lolib.specs.Words.{is_separator, words_of, is_bounded_whole}
use Rattle.lop_lolib.specs.Number.{is_decimal_word, decimal_count, digits_of}
use Rattle.lop_lolib.specs.Units.{most_decimals, word_units, first_wide}
use Rattle.lop_lolib.specs.Title.{title_of, title_len}
use Rattle.lop_lolib.specs.declared.lolib.LolibFile.{LolibFile}
use Rattle.lop_lolib.specs.declared.refusal.LolibRefusal.{LolibRefusal}
use Rattle.lop_lolib.specs.declared.refusal.LolibRefusal.TheVariants.{Empty, BadSize, SizeRange, BadEntry, TooFine, TooWide, Short, TooHeavy, Memory}

-- n rows of n entries in units of 10^-k, whose absolute values off the diagonal sum to at most 10^18, and the number of words behind them
abbrev pub entries_reading : ℕ → ℕ → List ℤ → ℕ → Result LolibFile LolibRefusal
entries_reading n k entries tail =
    if int_lt MAX_ABSOLUTE_SUM (absolute_total (matrix_of n entries))
    then Err (TooHeavy (absolute_total (matrix_of n entries)))
    else Ok (record { weights = matrix_of n entries; title = []; tail_words = tail; decimals = k })

-- the words are the numbers of n rows, each of which times 10^k is at most 10^18 in absolute value
abbrev pub units_reading : ℕ → ℕ → List (List ℕ) → ℕ → Result LolibFile LolibRefusal
units_reading n k words tail =
    if nat_lt (first_wide k words) (length words) then Err (TooWide (first_wide k words)) else entries_reading n k (map (word_units k) words) tail

-- a decimal number of at most six decimals, whose digits give at most 10^18 in absolute value
abbrev pub is_entry_word : List ℕ → Bool
is_entry_word word = is_decimal_word word && nat_le (decimal_count word) MAX_DECIMALS && nat_le (nat_abs (digits_of word)) MAX_NUMBER

-- why a word is no entry
abbrev pub entry_refusal : ℕ → List ℕ → LolibRefusal
entry_refusal index word = if is_decimal_word word then (if nat_lt MAX_DECIMALS (decimal_count word) then TooFine index else TooWide index) else BadEntry index

-- how many of the words for n * n entries are entries, up to the first that is none
abbrev pub entry_count : ℕ → List (List ℕ) → ℕ
entry_count n words = prefix_len is_entry_word (take (n * n) words)

-- the words behind that for n are n * n entries, row by row, and others
abbrev pub rows_reading : ℕ → List (List ℕ) → Result LolibFile LolibRefusal
rows_reading n words =
    if nat_lt (entry_count n words) (length (take (n * n) words))
    then Err (entry_refusal (entry_count n words) (slice_index_or words (entry_count n words) []))
    else (if nat_lt (length words) (n * n) then Err (Short (length words))
    else units_reading n (most_decimals (take (n * n) words)) (take (n * n) words) (length words - n * n))

-- n is from 1 to 512
abbrev pub size_reading : ℤ → List (List ℕ) → Result LolibFile LolibRefusal
size_reading n words =
    if int_lt n (pos 1) || int_lt (pos MAX_OBJECTS) n then Err (SizeRange n) else rows_reading (nat_abs n) words

-- the first word is a whole number n; it begins at this position
abbrev pub words_reading : ℕ → List (List ℕ) → Result LolibFile LolibRefusal
words_reading position [] = Err Empty
words_reading position (word ∷ words) = if is_bounded_whole word then size_reading (whole_value word) words else Err (BadSize position)

-- what follows a title
abbrev pub titled : List ℕ → Result LolibFile LolibRefusal → Result LolibFile LolibRefusal
titled title (Ok file) = Ok (record file { title = title })
titled title (Err refusal) = Err refusal

-- the bytes behind the title's line, of which this many stand before them
abbrev pub body_reading : ℕ → List ℕ → Result LolibFile LolibRefusal
body_reading before body = words_reading (before + prefix_len is_separator body) (words_of body)

-- what a text holds, or why it is refused
abbrev pub lolib_reading : List ℕ → Result LolibFile LolibRefusal
lolib_reading bytes = titled (title_of bytes) (body_reading (title_len bytes) (drop (title_len bytes) bytes))

-- Want of memory may come with any text. Every other refusal is the text's.
abbrev pub IsRefusal : Result LolibFile LolibRefusal → LolibRefusal → Type 0
IsRefusal reading Memory = Unit {0}
IsRefusal reading refusal = reading ≡ Err refusal
