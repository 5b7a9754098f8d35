-- Decimal numbers in words: a spelling, its decimals, and its digits as a whole number.
use Rattle.std.specs.Prelude.{ℕ, ◌+◌, Bool, ◌==◌, List, ◌++◌, length, take, drop, nat_lt, nat_abs, ℤ, if◌then◌else◌}
use Rattle.std.specs.List.{position_or_len}
use Rattle.lop_desk.specs.Number.{is_digit_word, unsigned_word, whole_value}
use Rattle.lop_lolib.specs.declared.number.TheConstants.{MAX_DECIMALS, MAX_NUMBER}
use Rattle.lop_lolib.specs.declared.number.NumberWord.{NumberWord}
use Rattle.lop_lolib.specs.declared.number.NumberWord.TheVariants.{Not, TooFine, TooWide, Good}

-- a `.`
abbrev pub is_point : ℕ → Bool
is_point b = b == 46

-- the number of bytes before the first point, or of all bytes where there is none
abbrev pub point_place : List ℕ → ℕ
point_place word = position_or_len is_point word

-- the bytes behind that point
abbrev pub behind_point : List ℕ → List ℕ
behind_point word = drop (point_place word + 1) word

-- the word without that point
abbrev pub without_point : List ℕ → List ℕ
without_point word = take (point_place word) word ++ behind_point word

-- a decimal number's spelling: an optional sign, and one or more digits with at most one point before, among or behind them
abbrev pub is_decimal_word : List ℕ → Bool
is_decimal_word word = is_digit_word (without_point (unsigned_word word))

-- how many decimals it has: the digits behind the point
abbrev pub decimal_count : List ℕ → ℕ
decimal_count word = length (behind_point word)

-- the whole number that its sign and digits give without the point
abbrev pub digits_of : List ℕ → ℤ
digits_of word = whole_value (without_point word)

-- the number of a word with at most six decimals, whose digits give at most 10^18; or the first of these that it lacks
abbrev pub number_word : List ℕ → NumberWord
number_word word =
    if is_decimal_word word
    then (if nat_lt MAX_DECIMALS (decimal_count word) then TooFine
    else (if nat_lt MAX_NUMBER (nat_abs (digits_of word)) then TooWide
    else Good (digits_of word) (decimal_count word)))
    else Not
