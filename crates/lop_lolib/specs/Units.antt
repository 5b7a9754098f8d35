-- Entries in units of 10^-k, where k is the greatest number of decimals among them.
use Rattle.std.specs.Prelude.{ℕ, ◌-◌, ◌^◌, max, Bool, List, map, nat_lt, nat_abs, ℤ, pos, ◌*ℤ◌}
use Rattle.std.specs.List.{fold, position_or_len}
use Rattle.lop_lolib.specs.declared.number.TheConstants.{MAX_NUMBER}
use Rattle.lop_lolib.specs.Number.{decimal_count, digits_of}

-- k: the greatest number of decimals among the words
abbrev pub most_decimals : List (List ℕ) → ℕ
most_decimals words = fold max 0 (map decimal_count words)

-- digits of which so many are decimals, as a number times 10^k
abbrev pub units_of : ℕ → ℤ → ℕ → ℤ
units_of k digits decimals = digits *ℤ pos (10 ^ (k - decimals))

-- a word's number times 10^k
abbrev pub word_units : ℕ → List ℕ → ℤ
word_units k word = units_of k (digits_of word) (decimal_count word)

-- it exceeds 10^18 in absolute value
abbrev pub is_wide : ℕ → List ℕ → Bool
is_wide k word = nat_lt MAX_NUMBER (nat_abs (word_units k word))

-- the index of the first such word, or the number of words
abbrev pub first_wide : ℕ → List (List ℕ) → ℕ
first_wide k words = position_or_len (is_wide k) words
