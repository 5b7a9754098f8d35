-- What the reader answers is the first of the lines to come.
use Rattle.std.proofs.Common.{◌≡◌, ◌≢◌, ◌⊎◌, ℕ, zero, suc, ◌+◌, ◌-◌, ◌^◌, ◌<◌, ◌≤◌, Bool, true, false, cond, ltb, leb, eqb, ◌&&◌, List, [], ◌∷◌, ◌++◌, length, drop, get_or, Option, None, Some, refl, sym, ◌∙◌, ap, subst, inl, inr, arith, length-append, length-drop, get_or-take}
use Rattle.std.specs.Prelude.{◌==◌, IfSome}
use Rattle.std.specs.List.{slice_split, All}
use Rattle.std.proofs.lemmas.Bool.{cases_lt, cases_eq, lt-ltb, le-leb, le-ltb}
use Rattle.std.proofs.lemmas.Bool.Decides.{nat_tests}
use Rattle.std.proofs.lemmas.List.{take-append-drop, append-nil, get_or_append_left}
use Rattle.std.proofs.lemmas.List.Elements.{All-from_get_or}
use Rattle.std.proofs.lemmas.List.Splits.{slice_split_at, slice_split_none, length-slice_split}
use Rattle.std.proofs.Math.Seq.{get_or-append_seam}
use Rattle.lop_desk.specs.World.{World, unread, moved_by, place_moved}
use Rattle.lop_desk.specs.LineState.{LineState, NoLf, to_come, to_come_after, allowance, with_ending, IsText}
use Rattle.lop_desk.specs.Line.{IsLine, HoldsLine, LineCause}
use Rattle.lop_desk.specs.declared.line.Line.TheVariants as line
use Rattle.lop_desk.specs.declared.line.LineStop.TheVariants as stop
use Rattle.lop_desk.proofs.Worlds.{bytes_from_moved}
use Rattle.lop_certtext.specs.Answer.{TextLine, ended_line, unended_line, long_line, long_file, limited, lines_from, CheckAnswer}
use Rattle.lop_check.specs.declared.verdict.Verdict.{Verdict}
use Rattle.lop_check.specs.Verdict.{Says}
use Rattle.lop_check.specs.Walk.{line_start, lines_to_come, Answers}

-- ---- bytes cut at LFs

abbrev is_lf : ℕ → Bool
is_lf b = b == 10

all_other : (xs : List ℕ) → NoLf xs (length xs) → All (λ b. is_lf b ≡ false) xs
all_other xs none = All-from_get_or (λ b. is_lf b ≡ false) xs 0 (λ i l. other (get_or xs i 0) (none i l))
  where
    other : (b : ℕ) → b ≢ 10 → eqb b 10 ≡ false
    other b ne = grind (arith, nat_tests)

pieces_some : (bytes : List ℕ) → 0 < length (slice_split is_lf bytes)
pieces_some bytes = omega (arith, length-slice_split is_lf bytes)

lines_cons : (start : ℕ) (piece : List ℕ) (pieces : List (List ℕ)) → 0 < length pieces → lines_from start (piece ∷ pieces) ≡ limited start piece true ∷ lines_from (start + length piece + 1) pieces
lines_cons start piece [] some = absurd (omega arith)
lines_cons start [] (next ∷ pieces) some = refl
lines_cons start (b ∷ bs) (next ∷ pieces) some = refl

-- a line that is ended, and the lines behind it
lines_ended : (start : ℕ) (piece rest : List ℕ) → NoLf piece (length piece)
    → lines_from start (slice_split is_lf (piece ++ 10 ∷ rest)) ≡ limited start piece true ∷ lines_from (start + length piece + 1) (slice_split is_lf rest)
lines_ended start piece rest none =
    ap (lines_from start) (slice_split_at is_lf piece 10 rest (all_other piece none) refl) ∙ lines_cons start piece (slice_split is_lf rest) (pieces_some rest)

-- a last line without LF
lines_unended : (start : ℕ) (piece : List ℕ) → 0 < length piece → NoLf piece (length piece) → lines_from start (slice_split is_lf piece) ≡ limited start piece false ∷ []
lines_unended start piece some none = ap (lines_from start) (slice_split_none is_lf piece (all_other piece none)) ∙ last piece some
  where
    last : (piece : List ℕ) → 0 < length piece → lines_from start (piece ∷ []) ≡ limited start piece false ∷ []
    last [] some = absurd (omega arith)
    last (b ∷ bs) some = refl

-- bytes begin with a line that is ended, or have no LF
data FirstPiece (bytes : List ℕ) : Type 0 where
  with_lf : (piece rest : List ℕ) → bytes ≡ piece ++ 10 ∷ rest → NoLf piece (length piece) → FirstPiece bytes
  without_lf : NoLf bytes (length bytes) → FirstPiece bytes

no_lf_cons : (b : ℕ) (bs : List ℕ) (n : ℕ) → b ≢ 10 → NoLf bs n → NoLf (b ∷ bs) (suc n)
no_lf_cons b bs n ne none zero l = ne
no_lf_cons b bs n ne none (suc k) l = none k (omega arith)

first_more : (b : ℕ) (bs : List ℕ) → b ≢ 10 → FirstPiece bs → FirstPiece (b ∷ bs)
first_more b bs ne (with_lf piece rest is none) = with_lf (b ∷ piece) rest (ap (λ l. b ∷ l) is) (no_lf_cons b piece (length piece) ne none)
first_more b bs ne (without_lf none) = without_lf (no_lf_cons b bs (length bs) ne none)

first_piece : (bytes : List ℕ) → FirstPiece bytes
first_piece [] = without_lf (λ k l _. absurd (omega arith))
first_piece (b ∷ bs) =
    elim (cases_eq b 10) [
      | inl e ↦ with_lf [] bs (ap (λ x. x ∷ bs) e) (λ k l _. absurd (omega arith))
      | inr ne ↦ first_more b bs ne (first_piece bs)
    ]

-- a first line is at least as long as what has no LF
first_long : (bytes piece rest : List ℕ) (n : ℕ) → bytes ≡ piece ++ 10 ∷ rest → NoLf bytes n → n ≤ length piece
first_long bytes piece rest n is none =
    elim (cases_lt (length piece) n) [
      | inr long ↦ long
      | inl short ↦ absurd (none (length piece) short (ap (λ l. get_or l (length piece) 0) is ∙ get_or-append_seam piece 10 rest 0))
    ]

-- ---- the two limits

limited_ended : (start : ℕ) (bytes : List ℕ) → length bytes ≤ 131072 → start + length bytes + 1 ≤ 2 ^ 40 → limited start bytes true ≡ ended_line bytes
limited_ended start bytes short small = rw (le-ltb 131072 (length bytes) short, le-ltb (2 ^ 40) (start + length bytes + 1) small)

limited_unended : (start : ℕ) (bytes : List ℕ) → length bytes ≤ 131072 → start + length bytes ≤ 2 ^ 40 → limited start bytes false ≡ unended_line bytes
limited_unended start bytes short small =
    let same : start + length bytes + 0 ≤ 2 ^ 40 = omega arith in
    rw (le-ltb 131072 (length bytes) short, le-ltb (2 ^ 40) (start + length bytes + 0) same)

limited_line : (start : ℕ) (bytes : List ℕ) (ended : Bool) → 131072 < length bytes → start + 131072 ≤ 2 ^ 40 → limited start bytes ended ≡ long_line
limited_line start bytes ended long small = rw (lt-ltb 131072 (length bytes) long, le-leb (start + 131072) (2 ^ 40) small)

-- how many bytes of the file a line takes with its LF
abbrev taken_by : List ℕ → Bool → ℕ
taken_by bytes ended = length bytes + cond ended 1 0

limited_file : (start : ℕ) (bytes : List ℕ) (ended : Bool) → (length bytes ≤ 131072) ⊎ (2 ^ 40 < start + 131072) → 2 ^ 40 < start + length bytes + cond ended 1 0 → limited start bytes ended ≡ long_file
limited_file start bytes ended (inl short) over = rw (le-ltb 131072 (length bytes) short, lt-ltb (2 ^ 40) (start + length bytes + cond ended 1 0) over)
limited_file start bytes ended (inr far) over = rw (not_le (start + 131072) (2 ^ 40) far, never (ltb 131072 (length bytes)), lt-ltb (2 ^ 40) (start + length bytes + cond ended 1 0) over)
  where
    not_le : (a b : ℕ) → b < a → leb a b ≡ false
    not_le a b l = grind (arith, nat_tests)

    never : (b : Bool) → (b && false) ≡ false
    never true = refl
    never false = refl

-- a line without end within the limit of a line
long_first : (start : ℕ) (bytes : List ℕ) → NoLf bytes 131073 → 131072 < length bytes → start + 131072 ≤ 2 ^ 40
    → (rest : List TextLine) × (lines_from start (slice_split is_lf bytes) ≡ long_line ∷ rest)
long_first start bytes none there small = goes (first_piece bytes)
  where
    goes : FirstPiece bytes → (rest : List TextLine) × (lines_from start (slice_split is_lf bytes) ≡ long_line ∷ rest)
    goes (with_lf piece rest is no_lf) =
        let long : 131073 ≤ length piece = first_long bytes piece rest 131073 is none in
        let others = lines_from (start + length piece + 1) (slice_split is_lf rest) in
        (others, ap (λ l. lines_from start (slice_split is_lf l)) is ∙ lines_ended start piece rest no_lf ∙ ap (λ x. x ∷ others) (limited_line start piece true (omega arith) small))
    goes (without_lf no_lf) = ([], lines_unended start bytes (omega arith) no_lf ∙ ap (λ x. x ∷ []) (limited_line start bytes false there small))

-- a line that reaches behind the limit of the file
far_first : (start room : ℕ) (bytes : List ℕ) → start + room ≡ 2 ^ 40 → NoLf bytes room → room < length bytes → room ≤ 131072 → (room ≡ 131072 → get_or bytes 131072 0 ≡ 10)
    → (rest : List TextLine) × (lines_from start (slice_split is_lf bytes) ≡ long_file ∷ rest)
far_first start room bytes full none there fits at_room = goes (first_piece bytes)
  where
    -- the line isn't too long, or the limit of the file comes first
    either : (piece : List ℕ) → (room ≡ 131072 → length piece ≤ 131072) → (length piece ≤ 131072) ⊎ (2 ^ 40 < start + 131072)
    either piece short = elim (cases_lt room 131072) [
      | inl less ↦ inr (omega arith)
      | inr not_less ↦ inl (short (omega arith))
    ]

    goes : FirstPiece bytes → (rest : List TextLine) × (lines_from start (slice_split is_lf bytes) ≡ long_file ∷ rest)
    goes (with_lf piece rest is no_lf) =
        let long : room ≤ length piece = first_long bytes piece rest room is none in
        let others = lines_from (start + length piece + 1) (slice_split is_lf rest) in
        let short : room ≡ 131072 → length piece ≤ 131072 = λ e. no_later piece rest is no_lf (at_room e) in
        (others, ap (λ l. lines_from start (slice_split is_lf l)) is ∙ lines_ended start piece rest no_lf ∙ ap (λ x. x ∷ others) (limited_file start piece true (either piece short) (omega arith)))
      where
        no_later : (piece rest : List ℕ) → bytes ≡ piece ++ 10 ∷ rest → NoLf piece (length piece) → get_or bytes 131072 0 ≡ 10 → length piece ≤ 131072
        no_later piece rest is no_lf lf = elim (cases_lt 131072 (length piece)) [
          | inr short ↦ short
          | inl late ↦ absurd (no_lf 131072 late (sym (get_or_append_left piece (10 ∷ rest) 0 131072 late) ∙ ap (λ l. get_or l 131072 0) (sym is) ∙ lf))
        ]
    goes (without_lf no_lf) =
        let short : room ≡ 131072 → length bytes ≤ 131072 = λ e. absurd (no_lf 131072 (omega arith) (at_room e)) in
        ([], lines_unended start bytes (omega arith) no_lf ∙ ap (λ x. x ∷ []) (limited_file start bytes false (either bytes short) (omega arith)))

-- ---- the lines to come

module _ (w : World) (before now : LineState) (placed : length before.pending ≤ before.count) (grows : before.count ≤ now.count) (limit : now.count ≤ 2 ^ 40) where
  -- the world after the call
  abbrev after : World
  after = record w { opened = place_moved (now.count - before.count) w.opened }

  rest_is : to_come after now ≡ to_come_after w before now
  rest_is = ap (λ l. now.pending ++ l) (bytes_from_moved (now.count - before.count) w.opened w.files)

  rest_size : length (to_come_after w before now) ≡ length now.pending + (length (unread w) - (now.count - before.count))
  rest_size = omega (arith, length-append now.pending (drop (now.count - before.count) (unread w)), length-drop (now.count - before.count) (unread w))

  whole_size : length (to_come w before) ≡ length before.pending + length (unread w)
  whole_size = length-append before.pending (unread w)

  module _ (size : ℕ) (ended : Bool) (is : IsText w before now size ended) (holds : length now.line ≡ size) (short : size ≤ 131072) where
    no_lf : NoLf now.line (length now.line)
    no_lf k l lf =
        let below : k < size = omega arith in
        is.no_lf k below (sym (get_or-take size (to_come w before) k 0 below) ∙ ap (λ t. get_or t k 0) (sym is.line) ∙ lf)

    joined : to_come w before ≡ now.line ++ with_ending ended (to_come_after w before now)
    joined = sym (take-append-drop size (to_come w before)) ∙ ap (λ l. l ++ drop size (to_come w before)) (sym is.line) ∙ ap (λ l. now.line ++ l) is.rest

  module _ (size : ℕ) (is : IsText w before now size true) (holds : length now.line ≡ size) (short : size ≤ 131072) where
    sizes : length (to_come w before) ≡ size + (1 + length (to_come_after w before now))
    sizes = omega (arith, ap length (joined size true is holds short), length-append now.line (10 ∷ to_come_after w before now), holds)

    placed_after : length now.pending ≤ now.count
    placed_after = omega (arith, sizes, whole_size, rest_size, is.read, placed, grows)

    start_after : line_start now ≡ line_start before + length now.line + 1
    start_after = omega (arith, sizes, whole_size, rest_size, is.read, placed, grows, placed_after, holds)

    ended_first : (lines_to_come w before ≡ ended_line now.line ∷ lines_to_come after now) × (length now.pending ≤ now.count)
    ended_first = (
      ap (λ l. lines_from (line_start before) (slice_split is_lf l)) (joined size true is holds short ∙ ap (λ l. now.line ++ 10 ∷ l) (sym rest_is))
          ∙ lines_ended (line_start before) now.line (to_come after now) (no_lf size true is holds short)
          ∙ ap (λ s. limited (line_start before) now.line true ∷ lines_from s (slice_split is_lf (to_come after now))) (sym start_after)
          ∙ ap (λ x. x ∷ lines_to_come after now) (limited_ended (line_start before) now.line (omega (arith, holds)) (omega (arith, start_after, limit))),
      placed_after,
    )

  module _ (size : ℕ) (is : IsText w before now size false) (holds : length now.line ≡ size) (short : size ≤ 131072) where
    whole_line : to_come w before ≡ now.line
    whole_line = joined size false is holds short ∙ append-nil now.line

    unended_first : lines_to_come w before ≡ unended_line now.line ∷ []
    unended_first =
        let some : 0 < length now.line = omega (arith, is.not_empty, ap length whole_line) in
        let none : length (to_come_after w before now) ≡ 0 = ap length (is.last refl) in
        ap (λ l. lines_from (line_start before) (slice_split is_lf l)) whole_line
        ∙ lines_unended (line_start before) now.line some (no_lf size false is holds short)
        ∙ ap (λ x. x ∷ []) (limited_unended (line_start before) now.line (omega (arith, holds)) (omega (arith, ap length whole_line, whole_size, rest_size, is.read, placed, grows, limit, none)))

-- ---- what each answer of the reader says of the next step

-- where a world is told, no more bytes wait than were read
abbrev pub Waits : Option World → LineState → Type 0
Waits told r = IfSome told (λ _. length r.pending ≤ r.count)

pub head_ended : (old new : Option World) (before now : LineState) (size : ℕ) → Waits old before → IsLine old before now (line.Text size true) → HoldsLine now (line.Text size true)
    → new ≡ moved_by (now.count - before.count) old → before.count ≤ now.count → now.count ≤ 2 ^ 40
    → (step : List TextLine → CheckAnswer) (v : Verdict) → Answers new now (λ rest. step (ended_line now.line ∷ rest)) v → Answers old before step v
head_ended None new before now size placed is holds moved grows limit step v later =
    let there : Answers None now (λ rest. step (ended_line now.line ∷ rest)) v = subst (λ t. Answers t now (λ rest. step (ended_line now.line ∷ rest)) v) moved later in
    (ended_line now.line ∷ there.0, there.1)
head_ended (Some w) new before now size placed is holds moved grows limit step v later =
    let first = ended_first w before now placed grows limit size is holds.0 holds.1 in
    let there = subst (λ t. Answers t now (λ rest. step (ended_line now.line ∷ rest)) v) moved later in
    subst (λ l. Says (step l) v) (sym first.0) there

-- a line that was read moves the reader on
pub head_advances : (old : Option World) (before now : LineState) (size : ℕ) → Waits old before → IsLine old before now (line.Text size true) → HoldsLine now (line.Text size true) → before.count ≤ now.count → now.count ≤ 2 ^ 40
    → IfSome old (λ _. (length now.pending ≤ now.count) × (line_start before < line_start now))
head_advances None before now size placed is holds grows limit = tt
head_advances (Some w) before now size placed is holds grows limit =
    (placed_after w before now placed grows limit size is holds.0 holds.1, omega (arith, start_after w before now placed grows limit size is holds.0 holds.1))

pub head_unended : (old : Option World) (before now : LineState) (size : ℕ) → Waits old before → IsLine old before now (line.Text size false) → HoldsLine now (line.Text size false)
    → before.count ≤ now.count → now.count ≤ 2 ^ 40
    → (step : List TextLine → CheckAnswer) (v : Verdict) → Says (step (unended_line now.line ∷ [])) v → Answers old before step v
head_unended None before now size placed is holds grows limit step v at = (unended_line now.line ∷ [], at)
head_unended (Some w) before now size placed is holds grows limit step v at =
    subst (λ l. Says (step l) v) (sym (unended_first w before now placed grows limit size is holds.0 holds.1)) at

pub head_end : (old : Option World) (before now : LineState) → IsLine old before now line.End → (step : List TextLine → CheckAnswer) (v : Verdict) → Says (step []) v → Answers old before step v
head_end None before now is step v at = ([], at)
head_end (Some w) before now is step v at =
    subst (λ l. Says (step (lines_from (line_start before) (slice_split is_lf l))) v) (sym is.none) at

-- at the end nothing waits
pub end_advances : (old : Option World) (before now : LineState) → IsLine old before now line.End → before.count ≤ now.count → IfSome old (λ _. (length now.pending ≤ now.count) × (line_start before ≤ line_start now))
end_advances None before now is grows = tt
end_advances (Some w) before now is grows =
    let first : length before.pending ≡ 0 = omega (arith, length-append before.pending (unread w), ap length is.none) in
    let last : length now.pending ≡ 0 = omega (arith, length-append now.pending (drop (now.count - before.count) (unread w)), ap length is.after) in
    (omega arith, omega arith)

pub head_long_line : (old : Option World) (before : LineState) (a b : ℕ) → Waits old before → LineCause old before a b stop.LineTooLong → before.count ≤ 2 ^ 40
    → (step : List TextLine → CheckAnswer) (v : Verdict) → ((rest : List TextLine) → Says (step (long_line ∷ rest)) v) → Answers old before step v
head_long_line None before a b placed is limit step v at = (long_line ∷ [], at [])
head_long_line (Some w) before a b placed is limit step v at =
    let first = long_first (line_start before) (to_come w before) is.no_lf is.there (omega (arith, is.within, placed, limit)) in
    subst (λ l. Says (step l) v) (sym first.1) (at first.0)

pub head_long_file : (old : Option World) (before : LineState) (a b : ℕ) → Waits old before → LineCause old before a b stop.TooLong → before.count ≤ 2 ^ 40
    → (step : List TextLine → CheckAnswer) (v : Verdict) → ((rest : List TextLine) → Says (step (long_file ∷ rest)) v) → Answers old before step v
head_long_file None before a b placed is limit step v at = (long_file ∷ [], at [])
head_long_file (Some w) before a b placed is limit step v at =
    let first = far_first (line_start before) (allowance before) (to_come w before) (omega (arith, placed, limit)) is.no_lf is.there is.room is.at_room in
    subst (λ l. Says (step l) v) (sym first.1) (at first.0)
