-- What a line is, and its parts.
use Rattle.std.specs.Prelude.{ℕ, ◌-◌, Bool, not, ◌&&◌, ◌==◌, List, length, drop, map, slice_index, codes, Option, None, Some, if◌then◌else◌}
use Rattle.std.specs.List.{slice_split, list_any, list_all, before_first, after_first}
use Rattle.lop_desk.specs.Number.{digits_value, is_digit_word}
use Rattle.lop_preflib.specs.Text.{is_blank, trim, begins_with}

-- the line begins with `#` (35)
abbrev pub is_metadata : List ℕ → Bool
is_metadata line = slice_index line 0 == 35

-- what stands behind the `#`, trimmed
abbrev pub metadata_text : List ℕ → List ℕ
metadata_text line = trim (drop 1 line)

-- what the text of a line that tells the number of alternatives begins with
abbrev pub size_label : List ℕ
size_label = codes "NUMBER ALTERNATIVES:"

-- the size word of a metadata text that tells the number of alternatives
abbrev pub told_size : List ℕ → Option (List ℕ)
told_size text = if begins_with size_label text then Some (trim (drop (length size_label) text)) else None

-- the size word of a line
abbrev pub size_word_of : List ℕ → Option (List ℕ)
size_word_of line = if is_metadata line then told_size (metadata_text line) else None

-- what the text of a line that names an alternative begins with
abbrev pub name_label : List ℕ
name_label = codes "ALTERNATIVE NAME "

abbrev pub is_colon : ℕ → Bool
is_colon b = b == 58

-- what stands behind that label: a number, a colon and a name
abbrev pub naming : List ℕ → List ℕ
naming text = drop (length name_label) text

-- the number of the alternative that is named
abbrev pub number_word : List ℕ → List ℕ
number_word text = before_first is_colon (naming text)

-- a metadata text names an alternative
abbrev pub is_naming : List ℕ → Bool
is_naming text = begins_with name_label text && list_any is_colon (naming text) && is_digit_word (number_word text)

-- the name that it gives the alternative with this number
abbrev pub told_name : ℕ → List ℕ → Option (List ℕ)
told_name number text =
    if is_naming text && digits_value (number_word text) == number then Some (trim (after_first is_colon (naming text))) else None

-- the name that a line gives it
abbrev pub name_for : ℕ → List ℕ → Option (List ℕ)
name_for number line = if is_metadata line then told_name number (metadata_text line) else None

-- the line is an order line: it is neither metadata nor blank
abbrev pub is_order_line : List ℕ → Bool
is_order_line line = not (is_metadata line) && not (list_all is_blank line)

-- an order line has a colon
abbrev pub has_colon : List ℕ → Bool
has_colon line = list_any is_colon (trim line)

-- what stands before the first colon of an order line, trimmed
abbrev pub count_word : List ℕ → List ℕ
count_word line = trim (before_first is_colon (trim line))

-- what stands behind it
abbrev pub list_text : List ℕ → List ℕ
list_text line = after_first is_colon (trim line)

abbrev pub is_comma : ℕ → Bool
is_comma b = b == 44

-- the pieces between commas, each trimmed
abbrev pub pieces_in : List ℕ → List (List ℕ)
pieces_in text = map trim (slice_split is_comma text)

-- the object that an item ranks: alternatives count from 1, objects from 0
abbrev pub object_of : List ℕ → ℕ
object_of item = digits_value item - 1
