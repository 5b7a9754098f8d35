-- Words of a text.
use Rattle.std.specs.Prelude.{ℕ, Bool, ◌&&◌, ◌||◌, ◌==◌, nat_lt, nat_le, List, length, filter, nat_abs}
use Rattle.std.specs.List.{slice_split}
use Rattle.lop_desk.specs.Number.{is_whole_word, whole_value}
use Rattle.lop_lolib.specs.declared.number.TheConstants.{MAX_NUMBER}

-- a space, a tab, a CR or an LF
abbrev pub is_separator : ℕ → Bool
is_separator b = b == 32 || b == 9 || b == 13 || b == 10

-- the words, in order: the longest runs of bytes that are no separators
abbrev pub words_of : List ℕ → List (List ℕ)
words_of bytes = filter (λ word. nat_lt 0 (length word)) (slice_split is_separator bytes)

-- a whole number's spelling, of at most 10^18 in absolute value
abbrev pub is_bounded_whole : List ℕ → Bool
is_bounded_whole word = is_whole_word word && nat_le (nat_abs (whole_value word)) MAX_NUMBER
