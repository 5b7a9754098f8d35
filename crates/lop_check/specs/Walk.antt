-- Where a reading stands, and what a step of the walk over the lines does.
use Rattle.std.specs.Prelude.{◌≡◌, ℕ, ◌-◌, ◌^◌, ◌≤◌, ◌==◌, List, length, ℤ, Bool, true, false, Option, None, Some, IfSome, Result, MatchResult}
use Rattle.std.specs.List.{slice_split}
use Rattle.lop_desk.specs.World.{World}
use Rattle.lop_desk.specs.Desk.{IsOpen}
use Rattle.lop_desk.specs.Whole.{OnlyOpens}
use Rattle.lop_desk.specs.LineState.{LineState, to_come}
use Rattle.lop_certtext.specs.declared.word.CertWord.{CertWord}
use Rattle.lop_certtext.specs.declared.word.CertWord.TheVariants.{Version, Objects, OrderLine, Value, Bound, Cuts, Dicycle, Fence, Ladder, RecordsLine, RecordLine, SplitLine, Leaf, End}
use Rattle.lop_certtext.specs.Answer.{TextLine, CheckAnswer, lines_from, is_version, is_objects, is_order_line, is_value, is_bound, is_cuts, is_records_line, is_record_line, is_end}
use Rattle.lop_certtext.specs.Line.{is_row}
use Rattle.lop_check.specs.declared.reading.Reading.{Reading}
use Rattle.lop_check.specs.declared.verdict.Verdict.{Verdict}
use Rattle.lop_check.specs.Verdict.{Says, VerdictCause}

-- how many bytes of the file stand before the next line
abbrev pub line_start : LineState → ℕ
line_start r = r.count - length r.pending

-- the lines that are still to come
abbrev pub lines_to_come : World → LineState → List TextLine
lines_to_come w r = lines_from (line_start r) (slice_split (λ b. b == 10) (to_come w r))

-- The verdict is what this rest of the walk answers: on the lines to come where the desk tells them, and else on some
-- lines.
abbrev pub Answers : Option World → LineState → (List TextLine → CheckAnswer) → Verdict → Type 0
Answers None r rest verdict = (lines : List TextLine) × Says (rest lines) verdict
Answers (Some w) r rest verdict = Says (rest (lines_to_come w r)) verdict

-- where a reading stands: what the desk tells, its count of faults, and the reader with the number of the line read
-- last
pub record Spot : Type 0 where
  pub told : Option World
  pub faults : ℕ
  pub reading : Reading

abbrev pub spot : Option World → ℕ → Reading → Spot
spot told faults reading = record { told = told; faults = faults; reading = reading }

-- no more bytes wait than were read, and each line so far has had a byte
pub record IsPlaced (r : Reading) : Type 0 where
  pub pending : length r.lines.pending ≤ r.lines.count
  pub number : r.number ≤ line_start r.lines

-- a file is open, and was read no further than its first 2^40 bytes
pub record IsReading (at : Spot) : Type 0 where
  pub opened : IsOpen at.told
  pub limit : at.reading.lines.count ≤ 2 ^ 40
  pub few : at.reading.number ≤ 2 ^ 41
  pub placed : IfSome at.told (λ _. IsPlaced at.reading)

-- a step went on: whatever the rest answers on what is left now, the whole answers on what was left before
pub record ReadsOn (before now : Spot) (whole rest : List TextLine → CheckAnswer) : Type 0 where
  pub reading : IsReading now
  pub world : OnlyOpens before.told now.told
  pub later : before.faults ≤ now.faults
  pub carries : (verdict : Verdict) → Answers now.told now.reading.lines rest verdict → Answers before.told before.reading.lines whole verdict

-- a step was the last: the verdict is the answer on what was left before it
pub record EndsCheck (before now : Spot) (whole : List TextLine → CheckAnswer) (verdict : Verdict) : Type 0 where
  pub answer : Answers before.told before.reading.lines whole verdict
  pub world : OnlyOpens before.told now.told
  pub later : before.faults ≤ now.faults
  pub cause : VerdictCause before.faults now.faults verdict

-- a step went on with a result, or was the last
abbrev pub HandsOver : {X : Type 0} → Spot → Spot → (List TextLine → CheckAnswer) → (X → List TextLine → CheckAnswer) → Result X Verdict → Type 0
HandsOver before now whole rest result = MatchResult result (λ x. ReadsOn before now whole (rest x)) (EndsCheck before now whole)

-- whether a word is the one that is due
abbrev pub is_due : CertWord → CertWord → Bool
is_due Version word = is_version word
is_due Objects word = is_objects word
is_due OrderLine word = is_order_line word
is_due Value word = is_value word
is_due Bound word = is_bound word
is_due Cuts word = is_cuts word
is_due RecordsLine word = is_records_line word
is_due RecordLine word = is_record_line word
is_due Leaf Leaf = true
is_due End word = is_end word
is_due Dicycle Dicycle = true
is_due Fence Fence = true
is_due Ladder Ladder = true
is_due SplitLine SplitLine = true
is_due due word = false

-- the numbers stand behind a word that is due
pub record HasDueRow (due : CertWord) (numbers : List ℤ) : Type 0 where
  pub word : CertWord
  pub is_due_here : is_due due word ≡ true
  pub row : is_row word numbers ≡ true
