-- Why a line is refused.
use Rattle.std.specs.Prelude.{ℕ, ◌+◌, Bool, not, ◌==◌, nat_lt, List, [], length, take, map, slice_index_or, Option, None, Some, if◌then◌else◌}
use Rattle.std.specs.List.{list_any, range_with_len}
use Rattle.lop_desk.specs.Number.{digits_value}
use Rattle.lop_preflib.specs.First.{or_else, first_answer}
use Rattle.lop_preflib.specs.Text.{is_number_to}
use Rattle.lop_preflib.specs.Line.{size_word_of, is_order_line, has_colon, count_word, list_text, pieces_in}
use Rattle.lop_preflib.specs.Groups.{item_of, are_bad_ties}
use Rattle.lop_preflib.specs.declared.refusal.PrefRefusal.{PrefRefusal}
use Rattle.lop_preflib.specs.declared.refusal.PrefRefusal.TheVariants.{NoSize, SizeRange, BadLine, BadCount, Ties, BadAlternative, Repeated, TooMany}
use Rattle.lop_preflib.specs.declared.profile.TheConstants.{MAX_ALTERNATIVES, MAX_VOTERS}

-- a number that stood among these items
abbrev pub stood_before : List (List ℕ) → ℕ → Bool
stood_before items number = list_any (λ item. digits_value item == number) items

-- the item at this place isn't a number from 1 to n, or it is a number that stood before
abbrev pub item_refusal : ℕ → ℕ → List (List ℕ) → ℕ → Option PrefRefusal
item_refusal n line items place =
    if not (is_number_to n (slice_index_or items place [])) then Some (BadAlternative line)
    else if stood_before (take place items) (digits_value (slice_index_or items place [])) then Some (Repeated line)
    else None

-- the first bad item
abbrev pub items_refusal : ℕ → ℕ → List (List ℕ) → Option PrefRefusal
items_refusal n line items = first_answer (item_refusal n line items) (range_with_len 0 (length items))

-- with this count there are more than 10^18 voters
abbrev pub votes_refusal : ℕ → ℕ → Option PrefRefusal
votes_refusal line voters = if nat_lt MAX_VOTERS voters then Some (TooMany line) else None

-- an order line, where n is known and so many voters came before
abbrev pub order_refusal : ℕ → ℕ → ℕ → List ℕ → Option PrefRefusal
order_refusal n voters line text =
    if not (has_colon text) then Some (BadLine line)
    else if not (is_number_to MAX_VOTERS (count_word text)) then Some (BadCount line)
    else if are_bad_ties (pieces_in (list_text text)) then Some (Ties line)
    else or_else (items_refusal n line (map item_of (pieces_in (list_text text)))) (votes_refusal line (voters + digits_value (count_word text)))

-- an order line, where the number of alternatives is known or isn't
abbrev pub sized_refusal : Option ℕ → ℕ → ℕ → List ℕ → Option PrefRefusal
sized_refusal None voters line text = Some (NoSize line)
sized_refusal (Some n) voters line text = order_refusal n voters line text

-- the first size word isn't a number from 1 to 512
abbrev pub size_refusal : Option ℕ → ℕ → Option (List ℕ) → Option PrefRefusal
size_refusal None line (Some word) = if is_number_to MAX_ALTERNATIVES word then None else Some (SizeRange line)
size_refusal size line word = None

-- a line, where the number of alternatives is known or isn't, and so many voters came before
abbrev pub line_refusal : Option ℕ → ℕ → ℕ → List ℕ → Option PrefRefusal
line_refusal size voters line text =
    if is_order_line text then sized_refusal size voters line text else size_refusal size line (size_word_of text)
