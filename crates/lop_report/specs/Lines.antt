-- The lines of an answer, as bytes.
use Rattle.std.specs.Prelude.{ℕ, ◌+◌, Bool, ◌&&◌, List, [], ◌∷◌, ◌++◌, codes, decimal, length, slice_index, slice_index_or, ℤ, int_le, if◌then◌else◌}
use Rattle.std.specs.Fmt.{signed_decimal}
use Rattle.std.specs.List.{flat_map, range_with_len}
use Rattle.lop_report.specs.declared.degree.Linearity.{Linearity}
use Rattle.lop_report.specs.declared.degree.Linearity.TheVariants.{None, Parts}
use Rattle.lop_report.specs.Figures.{linearity_parts}
use Rattle.lop_report.specs.Decimal.{decimal_text, fraction_text}

-- a word with its blank, and a number
abbrev pub number_line : List ℕ → ℤ → List ℕ
number_line word n = word ++ signed_decimal n ++ codes "\n"

-- a word with its blank, and a number of units of 10^-k with its k decimals
abbrev pub decimal_line : List ℕ → ℤ → ℕ → List ℕ
decimal_line word value k = word ++ decimal_text value k ++ codes "\n"

-- an object with a blank before it; objects count from 1 in every text
abbrev pub object_word : ℕ → List ℕ
object_word a = codes " " ++ decimal (a + 1)

-- the objects in order
abbrev pub order_line : List ℕ → List ℕ
order_line s = codes "order" ++ flat_map object_word s ++ codes "\n"

-- whether no order can weigh more: value and bound are the same
abbrev pub is_optimal : ℤ → ℤ → Bool
is_optimal value bound = int_le value bound && int_le bound value

-- whether the value is the greatest, or the search was cut off
abbrev pub status_line : ℤ → ℤ → List ℕ
status_line value bound = if is_optimal value bound then codes "status optimal\n" else codes "status spent\n"

-- whether the certificate's value is shown to be the greatest
abbrev pub check_status_line : ℤ → ℤ → List ℕ
check_status_line value bound = if is_optimal value bound then codes "status optimal\n" else codes "status bounded\n"

-- ten-thousandths with four decimals
abbrev pub linearity_text : Linearity → List ℕ
linearity_text None = codes "none"
linearity_text (Parts p) = fraction_text p 4

abbrev pub linearity_line : ℤ → ℤ → List ℕ
linearity_line value total = codes "linearity " ++ linearity_text (linearity_parts value total) ++ codes "\n"

-- a place and the object there, both from 1
abbrev pub rank_words : ℕ → ℕ → List ℕ
rank_words place object = codes "rank " ++ decimal (place + 1) ++ object_word object

-- a name with a blank before it, and nothing for an empty name
abbrev pub name_word : List ℕ → List ℕ
name_word [] = []
name_word (b ∷ name) = codes " " ++ (b ∷ name)

-- the line of an object of this name at a place
abbrev pub named_line : ℕ → ℕ → List ℕ → List ℕ
named_line place object name = rank_words place object ++ (name_word name ++ codes "\n")

-- the line of a place of the order s
abbrev pub rank_line : List (List ℕ) → List ℕ → ℕ → List ℕ
rank_line names s place = named_line place (slice_index s place) (slice_index_or names (slice_index s place) [])

-- a line for each place of s
abbrev pub rank_lines : List (List ℕ) → List ℕ → List ℕ
rank_lines names s = flat_map (rank_line names s) (range_with_len 0 (length s))
