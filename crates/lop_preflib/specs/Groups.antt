-- The groups of tied items in the pieces of an order.
use Rattle.std.specs.Prelude.{ℕ, ◌+◌, ◌-◌, Bool, not, ◌&&◌, ◌||◌, ◌==◌, nat_lt, List, [], length, take, drop, map, slice_index, slice_index_or, if◌then◌else◌}
use Rattle.std.specs.List.{count_by, list_any, range_with_len}
use Rattle.lop_preflib.specs.Text.{trim}

-- a piece that begins with `{` (123) opens a group
abbrev pub opens : List ℕ → Bool
opens piece = slice_index piece 0 == 123

-- the piece without that byte
abbrev pub without_opening : List ℕ → List ℕ
without_opening piece = if opens piece then drop 1 piece else piece

-- a word that ends with `}` (125)
abbrev pub ends_closing : List ℕ → Bool
ends_closing word = slice_index word (length word - 1) == 125

-- the word without that byte
abbrev pub without_closing : List ℕ → List ℕ
without_closing word = if ends_closing word then take (length word - 1) word else word

-- a piece that then ends with `}` closes the group behind it
abbrev pub closes : List ℕ → Bool
closes piece = ends_closing (without_opening piece)

-- what is left of a piece, trimmed, is its item
abbrev pub item_of : List ℕ → List ℕ
item_of piece = trim (without_closing (without_opening piece))

-- a group is open behind these pieces: more of them open one than close one
abbrev pub is_open : List (List ℕ) → Bool
is_open pieces = nat_lt (count_by closes pieces) (count_by opens pieces)

-- `{` or `}`
abbrev pub is_brace : ℕ → Bool
is_brace b = b == 123 || b == 125

-- A piece, before which a group is open or isn't: it opens one while one is open, it closes one while none is, or a
-- brace is left in its item.
abbrev pub is_bad_piece : Bool → List ℕ → Bool
is_bad_piece inside piece = (inside && opens piece) || (not (inside || opens piece) && closes piece) || list_any is_brace (item_of piece)

-- the piece at this place is such a one
abbrev pub is_bad_at : List (List ℕ) → ℕ → Bool
is_bad_at pieces place = is_bad_piece (is_open (take place pieces)) (slice_index_or pieces place [])

-- a piece is bad, or a group is open at the end
abbrev pub are_bad_ties : List (List ℕ) → Bool
are_bad_ties pieces = list_any (is_bad_at pieces) (range_with_len 0 (length pieces)) || is_open pieces

-- a group ends behind the piece at this place: none is open there
abbrev pub ends_at : List (List ℕ) → ℕ → Bool
ends_at pieces place = not (is_open (take (place + 1) pieces))

-- the number of the group of the piece at this place, from 0: so many groups end before it
abbrev pub group_at : List (List ℕ) → ℕ → ℕ
group_at pieces place = count_by (λ ended. ended) (map (ends_at pieces) (range_with_len 0 place))

-- the group numbers of all pieces
abbrev pub groups_in : List (List ℕ) → List ℕ
groups_in pieces = map (group_at pieces) (range_with_len 0 (length pieces))
