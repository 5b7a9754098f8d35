-- The title of a text, and where its numbers begin.
use Rattle.std.specs.Prelude.{ℕ, ◌+◌, ◌-◌, ◌==◌, Bool, not, List, [], length, take, drop, if◌then◌else◌}
use Rattle.std.specs.List.{prefix_len, position_or_len, suffix_len, list_any}
use Rattle.lop_lolib.specs.Words.{is_separator, words_of}
use Rattle.lop_lolib.specs.Number.{is_decimal_word}

-- an LF, which ends a line
abbrev pub is_line_end : ℕ → Bool
is_line_end b = b == 10

-- the bytes from the first word on
abbrev pub from_first_word : List ℕ → List ℕ
from_first_word bytes = drop (prefix_len is_separator bytes) bytes

-- the bytes to the end of the last word
abbrev pub to_last_word : List ℕ → List ℕ
to_last_word bytes = take (length bytes - suffix_len is_separator bytes) bytes

-- the bytes to the end of the first line
abbrev pub to_line_end : List ℕ → List ℕ
to_line_end bytes = take (position_or_len is_line_end bytes) bytes

-- the first line that has a word, from that word on
abbrev pub first_line : List ℕ → List ℕ
first_line bytes = to_line_end (from_first_word bytes)

-- a word of the line is no decimal number
abbrev pub is_title : List ℕ → Bool
is_title line = list_any (λ word. not (is_decimal_word word)) (words_of line)

-- the title: that line, from its first word to its last, where a word of it is no decimal number
abbrev pub title_of : List ℕ → List ℕ
title_of bytes = if is_title (first_line bytes) then to_last_word (first_line bytes) else []

-- the number of bytes up to the end of the title's line; 0 where there is no title
abbrev pub title_len : List ℕ → ℕ
title_len bytes = if is_title (first_line bytes) then prefix_len is_separator bytes + length (first_line bytes) else 0
