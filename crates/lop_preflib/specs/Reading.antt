-- What a PrefLib text means.
use Rattle.std.specs.Prelude.{◌≡◌, ℕ, ◌+◌, List, [], ◌∷◌, length, take, map, filter, slice_index_or, Option, None, Some, Result, Ok, Err}
use Rattle.std.specs.List.{range_with_len}
use Rattle.std.specs.Option.{option_map, unwrap_or}
use Rattle.lop_desk.specs.Number.{digits_value}
use Rattle.lop_preflib.specs.First.{first_answer}
use Rattle.lop_preflib.specs.Text.{lines_of}
use Rattle.lop_preflib.specs.Line.{size_word_of, name_for, is_order_line, count_word, list_text, pieces_in, object_of}
use Rattle.lop_preflib.specs.Groups.{item_of, groups_in}
use Rattle.lop_preflib.specs.Profile.{CountedOrder, ProfileFields, votes}
use Rattle.lop_preflib.specs.Refusal.{line_refusal}
use Rattle.lop_preflib.specs.declared.refusal.PrefRefusal.{PrefRefusal}
use Rattle.lop_preflib.specs.declared.refusal.PrefRefusal.TheVariants.{NoSize, NoOrders, Memory}

-- the value of the first size word
abbrev pub size_in : List (List ℕ) → Option ℕ
size_in lines = option_map digits_value (first_answer size_word_of lines)

-- the name that the first line for an alternative gives it; where there is none it is empty
abbrev pub name_in : List (List ℕ) → ℕ → List ℕ
name_in lines number = unwrap_or (first_answer (name_for number) lines) []

-- a count, and the objects of the items in these pieces with their group numbers
abbrev pub order_in_pieces : ℕ → List (List ℕ) → CountedOrder
order_in_pieces count pieces = record { count = count; ranked = map object_of (map item_of pieces); groups = groups_in pieces }

-- the order of an order line
abbrev pub order_of : List ℕ → CountedOrder
order_of line = order_in_pieces (digits_value (count_word line)) (pieces_in (list_text line))

-- the orders of all order lines
abbrev pub orders_in : List (List ℕ) → List CountedOrder
orders_in lines = map order_of (filter is_order_line lines)

abbrev pub profile_in : ℕ → List (List ℕ) → ProfileFields
profile_in n lines = record { size = n; names = map (name_in lines) (range_with_len 1 n); orders = orders_in lines }

-- why the line with this index is refused, after the lines before it
abbrev pub refusal_at : List (List ℕ) → ℕ → Option PrefRefusal
refusal_at lines k = line_refusal (size_in (take k lines)) (votes (orders_in (take k lines))) (k + 1) (slice_index_or lines k [])

-- the first refusal of a line
abbrev pub first_refusal : List (List ℕ) → Option PrefRefusal
first_refusal lines = first_answer (refusal_at lines) (range_with_len 0 (length lines))

-- there is an order line
abbrev pub orders_reading : ProfileFields → Result ProfileFields PrefRefusal
orders_reading profile = elim profile.orders [ [] ↦ Err NoOrders | order ∷ orders ↦ Ok profile ]

-- there is a size line
abbrev pub sized_reading : Option ℕ → List (List ℕ) → Result ProfileFields PrefRefusal
sized_reading None lines = Err (NoSize (length lines))
sized_reading (Some n) lines = orders_reading (profile_in n lines)

-- no line is refused
abbrev pub checked_reading : Option PrefRefusal → List (List ℕ) → Result ProfileFields PrefRefusal
checked_reading (Some refusal) lines = Err refusal
checked_reading None lines = sized_reading (size_in lines) lines

-- what a text holds, or why it is refused
abbrev pub preflib_reading : List ℕ → Result ProfileFields PrefRefusal
preflib_reading bytes = checked_reading (first_refusal (lines_of bytes)) (lines_of bytes)

-- Want of memory may come with any text. Every other refusal is the text's.
abbrev pub IsRefusal : Result ProfileFields PrefRefusal → PrefRefusal → Type 0
IsRefusal reading Memory = Unit {0}
IsRefusal reading refusal = reading ≡ Err refusal
