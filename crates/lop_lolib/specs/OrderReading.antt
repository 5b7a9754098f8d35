-- What the text of an order means.
use Rattle.std.specs.Prelude.{◌≡◌, ℕ, ◌-◌, Bool, not, ◌==◌, ◌||◌, ◌&&◌, nat_lt, List, length, map, take, slice_index_or, ℤ, pos, int_le, nat_abs, if◌then◌else◌, Result, Ok, Err}
use Rattle.std.specs.List.{prefix_len, position_or_len, range_with_len, list_any}
use Rattle.std.specs.Ordering.{int_eq}
use Rattle.lop_desk.specs.Number.{whole_value}
use Rattle.lop_lolib.specs.Words.{words_of, is_bounded_whole}
use Rattle.lop_lolib.specs.declared.order.OrderRefusal.{OrderRefusal}
use Rattle.lop_lolib.specs.declared.order.OrderRefusal.TheVariants.{BadWord, Length, OutOfRange, Repeated, Memory}

-- the number names one of n objects, which count from 1 in a text
abbrev pub is_object : ℕ → ℤ → Bool
is_object n number = int_le (pos 1) number && int_le number (pos n)

-- the object that a number names
abbrev pub object_of : ℤ → ℕ
object_of number = nat_abs number - 1

abbrev pub number_at : List ℤ → ℕ → ℤ
number_at numbers place = slice_index_or numbers place (pos 0)

-- at this place stands a number that names no object, or one that stood before
abbrev pub is_misplaced : ℕ → List ℤ → ℕ → Bool
is_misplaced n numbers place = not (is_object n (number_at numbers place)) || list_any (int_eq (number_at numbers place)) (take place numbers)

-- the first such place, or the number of places
abbrev pub first_misplaced : ℕ → List ℤ → ℕ
first_misplaced n numbers = position_or_len (is_misplaced n numbers) (range_with_len 0 (length numbers))

-- why the number at this place is refused
abbrev pub place_refusal : ℕ → List ℤ → ℕ → OrderRefusal
place_refusal n numbers place = if is_object n (number_at numbers place) then Repeated place else OutOfRange place

-- each number names an object, and no number stands twice
abbrev pub objects_reading : ℕ → List ℤ → Result (List ℕ) OrderRefusal
objects_reading n numbers =
    if nat_lt (first_misplaced n numbers) (length numbers) then Err (place_refusal n numbers (first_misplaced n numbers)) else Ok (map object_of numbers)

-- how many words in front are numbers
abbrev pub number_count : List (List ℕ) → ℕ
number_count words = prefix_len is_bounded_whole words

-- the words are n numbers
abbrev pub numbers_reading : ℕ → List (List ℕ) → Result (List ℕ) OrderRefusal
numbers_reading n words =
    if nat_lt (number_count words) (length words) then Err (BadWord (number_count words)) else (if length words == n then objects_reading n (map whole_value words) else Err (Length (length words)))

-- the order of n objects that a text spells, or why it is refused
abbrev pub order_reading : ℕ → List ℕ → Result (List ℕ) OrderRefusal
order_reading n bytes = numbers_reading n (words_of bytes)

-- Want of memory may come with any text. Every other refusal is the text's.
abbrev pub IsOrderRefusal : Result (List ℕ) OrderRefusal → OrderRefusal → Type 0
IsOrderRefusal reading Memory = Unit {0}
IsOrderRefusal reading refusal = reading ≡ Err refusal
