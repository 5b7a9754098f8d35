-- The kinds of words.
use Rattle.std.specs.Prelude.{ℕ, ◌^◌, Bool, false, ◌&&◌, ◌==◌, not, nat_lt, nat_le, List, [], ◌∷◌, codes, Option, None, Some, if◌then◌else◌}
use Rattle.std.specs.Str.{bytes_eq}
use Rattle.lop_desk.specs.Number.{digits_value, is_plain_word}
use Rattle.lop_words.specs.declared.command.Format.{Format}
use Rattle.lop_words.specs.declared.command.Format.TheVariants.{Lolib, Preflib}
use Rattle.lop_words.specs.declared.read.TheConstants.{MOST_OBJECTS}
use Rattle.lop_words.specs.declared.options.TheConstants.{MOST_NODES, MOST_WORKERS}

-- a name word isn't empty and doesn't begin with `-`
abbrev pub is_name_word : List ℕ → Bool
is_name_word [] = false
is_name_word (b ∷ bs) = not (b == 45)

-- the format of this name
abbrev pub format_of : List ℕ → Option Format
format_of word = if bytes_eq word (codes "lolib") then Some Lolib else (if bytes_eq word (codes "preflib") then Some Preflib else None)

-- a plain number from 1 to the greatest
abbrev pub is_count : ℕ → List ℕ → Bool
is_count most word = is_plain_word word && nat_le 1 (digits_value word) && nat_le (digits_value word) most

-- a number of nodes
abbrev pub is_budget : List ℕ → Bool
is_budget word = is_count MOST_NODES word

-- a number of workers
abbrev pub is_workers : List ℕ → Bool
is_workers word = is_count MOST_WORKERS word

-- a number of objects
abbrev pub is_size : List ℕ → Bool
is_size word = is_count MOST_OBJECTS word

-- a plain number of 64 bits
abbrev pub is_seed : List ℕ → Bool
is_seed word = is_plain_word word && nat_lt (digits_value word) (2 ^ 64)
