-- What the checker answers: a walk over the lines, in which the first test that fails gives line and reason.
use Rattle.std.specs.Prelude.{◌≡◌, ℕ, zero, suc, ◌+◌, ◌^◌, Bool, true, false, not, ◌&&◌, ◌==◌, nat_lt, nat_le, int_lt, int_le, List, [], ◌∷◌, ◌++◌, length, ℤ, pos, nat_abs, ◌-◌, ◌+ℤ◌, ◌*ℤ◌, Option, None, Some, if◌then◌else◌}
use Rattle.std.specs.List.{slice_split}
use Rattle.lop_model.specs.declared.pair.Pair.{Pair}
use Rattle.lop_model.specs.Matrix.{Matrix, weight}
use Rattle.lop_model.specs.Fixings.{has_pair}
use Rattle.lop_model.specs.Closing.{AreClosures}
use Rattle.lop_cuts.specs.declared.kind.CutKind.{CutKind}
use Rattle.lop_cuts.specs.CutTests.{are_different}
use Rattle.lop_cuts.specs.Lagrangian.{lagrangian_value}
use Rattle.lop_certtext.specs.declared.version.CertVersion.{CertVersion}
use Rattle.lop_certtext.specs.declared.version.CertVersion.TheVariants.{One, Two}
use Rattle.lop_certtext.specs.declared.word.CertWord.{CertWord}
use Rattle.lop_certtext.specs.declared.word.CertWord.TheVariants.{Version, Objects, OrderLine, Value, Bound, Cuts, Dicycle, Fence, Ladder, RecordsLine, RecordLine, SplitLine, Leaf, End}
use Rattle.lop_certtext.specs.declared.reason.Reason.{Reason}
use Rattle.lop_certtext.specs.declared.reason.Reason.TheVariants as reason
use Rattle.lop_certtext.specs.Line.{CertLine, line_reading}
use Rattle.lop_model.specs.Reversed.{reversed}
use Rattle.lop_certtext.specs.CutLine.{objects_of, name_objects, cut_of}
use Rattle.lop_certtext.specs.RecordLine.{CertRecord, record_of, if_within, leaf_of, terms_in}

-- ---- the lines of a text

-- a line as it is read: ended by an LF or not, longer than 131,072 bytes, or with a byte behind the first 2^40 of the file
pub data TextLine : Type 0 where
  ended_line : List ℕ → TextLine
  unended_line : List ℕ → TextLine
  long_line : TextLine
  long_file : TextLine

-- a line that begins behind `start` bytes; the one of the two limits that is met first counts
abbrev pub limited : ℕ → List ℕ → Bool → TextLine
limited start bytes ended =
    if nat_lt 131072 (length bytes) && nat_le (start + 131072) (2 ^ 40) then long_line
    else (if nat_lt (2 ^ 40) (start + length bytes + (if ended then 1 else 0)) then long_file
    else (if ended then ended_line bytes else unended_line bytes))

-- the lines of the pieces between LFs; a last piece is a line where it isn't empty
abbrev pub lines_from : ℕ → List (List ℕ) → List TextLine
lines_from start [] = []
lines_from start ([] ∷ []) = []
lines_from start ((b ∷ bs) ∷ []) = limited start (b ∷ bs) false ∷ []
lines_from start (piece ∷ next ∷ pieces) = limited start piece true ∷ lines_from (start + length piece + 1) (next ∷ pieces)

abbrev pub text_lines : List ℕ → List TextLine
text_lines bytes = lines_from 0 (slice_split (λ b. b == 10) bytes)

-- ---- the walk

pub data CheckAnswer : Type 0 where
  accepted : ℤ → ℤ → CheckAnswer
  rejected : ℕ → Reason → CheckAnswer
  too_long : CheckAnswer

abbrev pub with_line : ℕ → Option CertLine → (CertLine → CheckAnswer) → CheckAnswer
with_line number None next = rejected number reason.Spelling
with_line number (Some line) next = next line

-- a line that is spelled right, and then the rest
abbrev pub spelled : ℕ → List TextLine → (CertLine → List TextLine → CheckAnswer) → CheckAnswer
spelled number [] next = rejected number reason.Short
spelled number (long_file ∷ lines) next = too_long
spelled number (long_line ∷ lines) next = rejected number reason.Spelling
spelled number (ended_line bytes ∷ lines) next = with_line number (line_reading bytes) (λ line. next line lines)
spelled number (unended_line bytes ∷ lines) next = rejected number reason.Spelling

-- a line whose word is the one that is due here, and then the rest
abbrev pub expect : (CertWord → Bool) → ℕ → List TextLine → (List ℤ → List TextLine → CheckAnswer) → CheckAnswer
expect is_due number lines next = spelled number lines (λ line rest. if is_due line.word then next line.numbers rest else rejected number reason.Spelling)

abbrev pub is_version : CertWord → Bool
is_version Version = true
is_version word = false

abbrev pub is_objects : CertWord → Bool
is_objects Objects = true
is_objects word = false

abbrev pub is_order_line : CertWord → Bool
is_order_line OrderLine = true
is_order_line word = false

abbrev pub is_value : CertWord → Bool
is_value Value = true
is_value word = false

abbrev pub is_bound : CertWord → Bool
is_bound Bound = true
is_bound word = false

abbrev pub is_cuts : CertWord → Bool
is_cuts Cuts = true
is_cuts word = false

abbrev pub is_records_line : CertWord → Bool
is_records_line RecordsLine = true
is_records_line word = false

abbrev pub is_record_line : CertWord → Bool
is_record_line RecordLine = true
is_record_line word = false

abbrev pub is_end : CertWord → Bool
is_end End = true
is_end word = false

-- the one number of a line that has one
abbrev pub only_number : List ℤ → ℤ
only_number [] = pos 0
only_number (n ∷ ns) = n

-- the version that the numbers of a first line state
abbrev pub version_of : List ℤ → CertVersion
version_of (pos (suc (suc zero)) ∷ []) = Two
version_of ns = One

-- the numbers of a line are an order of 1 to n
abbrev pub is_order : ℕ → List ℤ → Bool
is_order n ns = length ns == n && name_objects n ns && are_different (objects_of ns)

-- The steps, from the last line to the first. Lines are counted from 1.

-- nothing stands behind the end
abbrev pub tail_step : ℤ → ℤ → ℕ → List TextLine → CheckAnswer
tail_step value bound number [] = accepted value bound
tail_step value bound number (long_file ∷ lines) = too_long
tail_step value bound number (long_line ∷ lines) = rejected number reason.Tail
tail_step value bound number (ended_line bytes ∷ lines) = rejected number reason.Tail
tail_step value bound number (unended_line bytes ∷ lines) = rejected number reason.Tail

abbrev pub end_step : ℤ → ℤ → ℕ → List TextLine → CheckAnswer
end_step value bound number lines = expect is_end number lines (λ _ rest. tail_step value bound (number + 1) rest)

-- ---- the tree. K gives each path its closure.

-- Here G is the closure of the path to the node.

-- the pair has two objects, and the closure has it neither way round
abbrev pub may_split : List Pair → Pair → Bool
may_split G p = not (p.before == p.after) && not (has_pair G p.before p.after) && not (has_pair G p.after p.before)

-- the pair of 1 to n that a line spells, if it may be split
abbrev pub split_of : ℕ → List Pair → List ℤ → Option Pair
split_of n G (a ∷ b ∷ []) =
    if name_objects n (a ∷ b ∷ []) && may_split G (record { before = nat_abs a - 1; after = nat_abs b - 1 }) then Some (record { before = nat_abs a - 1; after = nat_abs b - 1 }) else None
split_of n G ns = None

-- the number U of a leaf, by its record
abbrev pub leaf_value : Matrix → List CutKind → List Pair → CertRecord → ℤ
leaf_value C cuts G r = lagrangian_value C G r.scale (terms_in cuts r.terms)

-- what it has to be below
abbrev pub leaf_limit : CertRecord → ℤ → ℤ
leaf_limit r bound = pos r.scale *ℤ (bound +ℤ pos 1)

-- a split puts the two extensions of the first pending path in its place
abbrev pub split_step : List Pair → List (List Pair) → ℕ → Option Pair → (List (List Pair) → CheckAnswer) → CheckAnswer
split_step path pending number None next = rejected number reason.SplitLine
split_step path pending number (Some p) next = next ((path ++ p ∷ []) ∷ (path ++ reversed p ∷ []) ∷ pending)

-- a leaf takes it away
abbrev pub leaf_step : Matrix → List CutKind → ℤ → List Pair → List (List Pair) → ℕ → Option CertRecord → (List (List Pair) → CheckAnswer) → CheckAnswer
leaf_step C cuts bound G pending number None next = rejected number reason.Leaf
leaf_step C cuts bound G pending number (Some r) next =
    if int_lt (leaf_value C cuts G r) (leaf_limit r bound) then next pending else rejected number (reason.High (leaf_value C cuts G r) (leaf_limit r bound))

-- Here L gives the record of a leaf by the numbers of its line.

-- a line of the tree, where a path with the closure G is pending
abbrev pub node_step : Matrix → List CutKind → (List ℤ → Option CertRecord) → ℤ → List Pair → List Pair → List (List Pair) → ℕ → CertWord → List ℤ → (List (List Pair) → CheckAnswer) → CheckAnswer
node_step C cuts L bound G path pending number SplitLine ns next = split_step path pending number (split_of C.size G ns) next
node_step C cuts L bound G path pending number Leaf ns next = leaf_step C cuts bound G pending number (L ns) next
node_step C cuts L bound G path pending number word ns next = rejected number reason.Spelling

-- the lines of the tree, with the paths whose subtrees are still to come; the end is due where none is left
abbrev pub tree_step : (List Pair → List Pair) → Matrix → List CutKind → (List ℤ → Option CertRecord) → ℤ → ℤ → List (List Pair) → ℕ → List TextLine → CheckAnswer
tree_step K C cuts L value bound [] number lines = end_step value bound number lines
tree_step K C cuts L value bound (path ∷ pending) number [] = rejected number reason.Short
tree_step K C cuts L value bound (path ∷ pending) number (long_file ∷ lines) = too_long
tree_step K C cuts L value bound (path ∷ pending) number (long_line ∷ lines) = rejected number reason.Spelling
tree_step K C cuts L value bound (path ∷ pending) number (unended_line bytes ∷ lines) = rejected number reason.Spelling
tree_step K C cuts L value bound (path ∷ pending) number (ended_line bytes ∷ lines) =
    with_line number (line_reading bytes) (λ line. node_step C cuts L bound (K path) path pending number line.word line.numbers (λ left. tree_step K C cuts L value bound left (number + 1) lines))

-- ---- the lines of the records

abbrev pub with_record : ℕ → Option CertRecord → (CertRecord → CheckAnswer) → CheckAnswer
with_record number None next = rejected number reason.RecordLine
with_record number (Some r) next = next r

-- so many records more, and then the tree
abbrev pub records_left_step : (List Pair → List Pair) → Matrix → List CutKind → ℤ → ℤ → ℕ → List CertRecord → ℕ → List TextLine → CheckAnswer
records_left_step K C cuts value bound zero records number lines = tree_step K C cuts (leaf_of Two (length cuts) records) value bound ([] ∷ []) number lines
records_left_step K C cuts value bound (suc k) records number lines = expect is_record_line number lines
    (λ numbers rest. with_record number (if_within records (record_of (length cuts) numbers))
    (λ r. records_left_step K C cuts value bound k (records ++ r ∷ []) (number + 1) rest))

-- how many records there are, where they have lines of their own
abbrev pub records_step : (List Pair → List Pair) → Matrix → CertVersion → List CutKind → ℤ → ℤ → ℕ → List TextLine → CheckAnswer
records_step K C One cuts value bound number lines = tree_step K C cuts (leaf_of One (length cuts) []) value bound ([] ∷ []) number lines
records_step K C Two cuts value bound number lines = expect is_records_line number lines
    (λ numbers rest. records_left_step K C cuts value bound (nat_abs (only_number numbers)) [] (number + 1) rest)

-- ---- the lines before them

abbrev pub is_cut_word : CertWord → Bool
is_cut_word Dicycle = true
is_cut_word Fence = true
is_cut_word Ladder = true
is_cut_word word = false

abbrev pub with_cut : ℕ → Option CutKind → (CutKind → CheckAnswer) → CheckAnswer
with_cut number None next = rejected number reason.Cut
with_cut number (Some cut) next = next cut

-- a line of a cut
abbrev pub cut_step : ℕ → ℕ → CertWord → List ℤ → (CutKind → CheckAnswer) → CheckAnswer
cut_step n number word ns next = if is_cut_word word then with_cut number (cut_of n word ns) next else rejected number reason.Spelling

-- so many cuts more, and then the records
abbrev pub cuts_left_step : (List Pair → List Pair) → Matrix → CertVersion → ℤ → ℤ → ℕ → List CutKind → ℕ → List TextLine → CheckAnswer
cuts_left_step K C version value bound zero cuts number lines = records_step K C version cuts value bound number lines
cuts_left_step K C version value bound (suc k) cuts number lines =
    spelled number lines (λ line rest. cut_step C.size number line.word line.numbers (λ cut. cuts_left_step K C version value bound k (cuts ++ cut ∷ []) (number + 1) rest))

-- how many cuts there are
abbrev pub cuts_step : (List Pair → List Pair) → Matrix → CertVersion → ℤ → ℤ → ℕ → List TextLine → CheckAnswer
cuts_step K C version value bound number lines = expect is_cuts number lines (λ numbers rest. cuts_left_step K C version value bound (nat_abs (only_number numbers)) [] (number + 1) rest)

-- any bound may be stated
abbrev pub bound_step : (List Pair → List Pair) → Matrix → CertVersion → ℤ → ℕ → List TextLine → CheckAnswer
bound_step K C version value number lines = expect is_bound number lines (λ numbers rest. cuts_step K C version value (only_number numbers) (number + 1) rest)

-- the value is what the order was found to weigh
abbrev pub value_step : (List Pair → List Pair) → Matrix → CertVersion → ℤ → ℕ → List TextLine → CheckAnswer
value_step K C version found number lines = expect is_value number lines
    (λ numbers rest. if int_le (only_number numbers) found && int_le found (only_number numbers) then bound_step K C version (only_number numbers) (number + 1) rest
    else rejected number (reason.Value (only_number numbers) found))

-- an order of the objects
abbrev pub order_step : (List Pair → List Pair) → Matrix → CertVersion → ℕ → List TextLine → CheckAnswer
order_step K C version number lines = expect is_order_line number lines
    (λ numbers rest. if is_order C.size numbers then value_step K C version (weight C (objects_of numbers)) (number + 1) rest else rejected number reason.OrderLine)

-- as many objects as the weights have
abbrev pub objects_step : (List Pair → List Pair) → Matrix → CertVersion → ℕ → List TextLine → CheckAnswer
objects_step K C version number lines = expect is_objects number lines
    (λ numbers rest. if nat_abs (only_number numbers) == C.size then order_step K C version (number + 1) rest else rejected number reason.Size)

-- the first line
abbrev pub version_step : (List Pair → List Pair) → Matrix → ℕ → List TextLine → CheckAnswer
version_step K C number lines = expect is_version number lines (λ numbers rest. objects_step K C (version_of numbers) (number + 1) rest)

-- what the walk answers for the weights C and a text, where K gives each path its closure
abbrev pub check_answer : (List Pair → List Pair) → Matrix → List ℕ → CheckAnswer
check_answer K C bytes = version_step K C 1 (text_lines bytes)

-- this is what the checker answers for the weights C and a text: every function that gives each path its closure leads to it
abbrev pub IsCheckAnswer : Matrix → List ℕ → CheckAnswer → Type 0
IsCheckAnswer C bytes answer = (K : List Pair → List Pair) → AreClosures K → check_answer K C bytes ≡ answer
