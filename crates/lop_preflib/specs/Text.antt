-- Lines, blanks, and digit words.
use Rattle.std.specs.Prelude.{ℕ, ◌-◌, Bool, ◌&&◌, ◌||◌, ◌==◌, nat_le, nat_eq, List, [], ◌∷◌, length, take, drop, map, slice_index, if◌then◌else◌}
use Rattle.std.specs.List.{slice_split, prefix_len, suffix_len, starts_with}
use Rattle.lop_desk.specs.Number.{digits_value, is_digit_word}

abbrev pub is_lf : ℕ → Bool
is_lf b = b == 10

-- a space or a tab
abbrev pub is_blank : ℕ → Bool
is_blank b = b == 32 || b == 9

-- the pieces, but for the last where it is empty
abbrev pub without_empty_end : List (List ℕ) → List (List ℕ)
without_empty_end [] = []
without_empty_end ([] ∷ []) = []
without_empty_end ((b ∷ bs) ∷ []) = (b ∷ bs) ∷ []
without_empty_end (piece ∷ next ∷ pieces) = piece ∷ without_empty_end (next ∷ pieces)

-- the line without one CR (13) at its end
abbrev pub without_cr : List ℕ → List ℕ
without_cr line = if slice_index line (length line - 1) == 13 then take (length line - 1) line else line

-- the lines of a text: it is cut at LF, and a last piece without LF is a line where it isn't empty
abbrev pub lines_of : List ℕ → List (List ℕ)
lines_of bytes = map without_cr (without_empty_end (slice_split is_lf bytes))

abbrev pub without_front : List ℕ → List ℕ
without_front bytes = drop (prefix_len is_blank bytes) bytes

abbrev pub without_back : List ℕ → List ℕ
without_back bytes = take (length bytes - suffix_len is_blank bytes) bytes

-- the bytes without the blanks at both ends
abbrev pub trim : List ℕ → List ℕ
trim bytes = without_back (without_front bytes)

-- a digit word with a value from 1 to `most`
abbrev pub is_number_to : ℕ → List ℕ → Bool
is_number_to most word = is_digit_word word && nat_le 1 (digits_value word) && nat_le (digits_value word) most

-- the bytes begin with this word
abbrev pub begins_with : List ℕ → List ℕ → Bool
begins_with word bytes = starts_with nat_eq bytes word
