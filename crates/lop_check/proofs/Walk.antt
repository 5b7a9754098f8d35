-- How the steps go on from each other.
use Rattle.std.proofs.Common.{◌≡◌, ◌≢◌, ℕ, ◌+◌, ◌-◌, ◌^◌, ◌<◌, ◌≤◌, Bool, true, false, cond, List, [], ◌∷◌, length, ℤ, ◌≤ℤ◌, ◌<ℤ◌, Option, None, Some, Ok, Err, refl, sym, ◌∙◌, ap, subst, arith}
use Rattle.std.specs.Prelude.{int_le, int_lt, ◌&&◌, IfSome, IfErr, Result}
use Rattle.std.specs.Result.{IsErrAnd}
use Rattle.std.proofs.lemmas.Result.{MatchResult-at_ok, MatchResult-at_err}
use Rattle.std.proofs.Common.{eqb}
use Rattle.std.proofs.lemmas.Int.{ints}
use Rattle.std.proofs.lemmas.Bool.Decides.{nat_tests}
use Rattle.lop_desk.specs.World.{World, moved_by}
use Rattle.lop_desk.specs.Desk.{IsOpen}
use Rattle.lop_desk.specs.LineState.{LineState}
use Rattle.lop_desk.specs.Line.{IsLine, HoldsLine, LineCause}
use Rattle.lop_desk.specs.declared.line.Line.{Line}
use Rattle.lop_desk.specs.declared.line.LineStop.{LineStop}
use Rattle.lop_desk.specs.declared.line.Line.TheVariants as line
use Rattle.lop_desk.specs.declared.line.LineStop.TheVariants as stop
use Rattle.lop_desk.proofs.Worlds.{only_moved, still_open}
use Rattle.lop_desk.proofs.Printing.{rose_from}
use Rattle.lop_certtext.specs.declared.word.CertWord.{CertWord}
use Rattle.lop_certtext.specs.declared.reason.Reason.{Reason}
use Rattle.lop_certtext.specs.declared.reason.Reason.TheVariants as reason
use Rattle.lop_certtext.specs.declared.word.CertWord.TheVariants.{Version, Objects, OrderLine, Value, Bound, Cuts, Dicycle, Fence, Ladder, RecordsLine, RecordLine, SplitLine, Leaf, End}
use Rattle.lop_certtext.specs.contracts.word.CertWord.{the_type}
use denote.Enum.Bare.{sameb}
use Rattle.lop_certtext.specs.Line.{CertLine, line_reading}
use Rattle.lop_certtext.specs.Answer.{TextLine, long_file, CheckAnswer, accepted, rejected, with_line, spelled, tail_step}
use Rattle.lop_check.specs.declared.verdict.Verdict.{Verdict}
use Rattle.lop_check.specs.declared.verdict.Verdict.TheVariants as verdict
use Rattle.lop_check.specs.Verdict.{Says, VerdictCause}
use Rattle.lop_check.specs.Walk.{line_start, Answers, Spot, IsPlaced, IsReading, ReadsOn, EndsCheck, HandsOver, is_due}
use Rattle.lop_check.proofs.Heads.{Waits, head_ended, head_advances, head_unended, head_end, end_advances, head_long_line, head_long_file}

-- ---- answers

-- a step that answers the same on all lines
pub always : (told : Option World) (r : LineState) (step : List TextLine → CheckAnswer) (v : Verdict) → ((lines : List TextLine) → Says (step lines) v) → Answers told r step v
always None r step v all = ([], all [])
always (Some w) r step v all = all _

-- the same verdict of two steps that answer alike
pub answers_alike : (told : Option World) (r : LineState) (step other : List TextLine → CheckAnswer) (v : Verdict) → ((lines : List TextLine) → step lines ≡ other lines) → Answers told r other v → Answers told r step v
answers_alike None r step other v same so = (so.0, subst (λ a. Says a v) (sym (same so.0)) so.1)
answers_alike (Some w) r step other v same so = subst (λ a. Says a v) (sym (same _)) so

cause_from : (a b c : ℕ) (v : Verdict) → a ≤ b → VerdictCause b c v → VerdictCause a c v
cause_from a b c verdict.Failed l h = rose_from a b c l h
cause_from a b c (verdict.Accepted value bound) l h = tt
cause_from a b c (verdict.Rejected number reason) l h = tt
cause_from a b c verdict.TooLong l h = tt
cause_from a b c verdict.Memory l h = tt

-- ---- steps in turn

pub then_on : (a b c : Spot) (whole mid rest : List TextLine → CheckAnswer) → ReadsOn a b whole mid → ReadsOn b c mid rest → ReadsOn a c whole rest
then_on a b c whole mid rest x y = record {
  reading = y.reading;
  world = y.world ∙ x.world;
  later = omega (arith, x.later, y.later);
  carries = λ v h. x.carries v (y.carries v h);
}

pub then_ends : (a b c : Spot) (whole mid : List TextLine → CheckAnswer) (v : Verdict) → ReadsOn a b whole mid → EndsCheck b c mid v → EndsCheck a c whole v
then_ends a b c whole mid v x y = record {
  answer = x.carries v y.answer;
  world = y.world ∙ x.world;
  later = omega (arith, x.later, y.later);
  cause = cause_from a.faults b.faults c.faults v x.later y.cause;
}

-- the last of the steps in turn, with its result as it is
pub then_handed : {X : Type 0} (a b c : Spot) (whole mid : List TextLine → CheckAnswer) (rest : X → List TextLine → CheckAnswer) (r : Result X Verdict) → ReadsOn a b whole mid → HandsOver b c mid rest r → HandsOver a c whole rest r
then_handed a b c whole mid rest (Ok x) h k = then_on a b c whole mid (rest x) h k
then_handed a b c whole mid rest (Err v) h k = then_ends a b c whole mid v h k

-- nothing was read
pub stays : (a : Spot) (whole : List TextLine → CheckAnswer) → IsReading a → ReadsOn a a whole whole
stays a whole is = record { reading = is; world = refl; later = omega arith; carries = λ v h. h }

-- what is left answers alike
pub passes : (a b : Spot) (whole rest other : List TextLine → CheckAnswer) → ((lines : List TextLine) → rest lines ≡ other lines) → ReadsOn a b whole rest → ReadsOn a b whole other
passes a b whole rest other same x = record {
  reading = x.reading;
  world = x.world;
  later = x.later;
  carries = λ v h. x.carries v (answers_alike b.told b.reading.lines rest other v same h);
}

-- what was left answers alike
pub begins : (a b : Spot) (whole other rest : List TextLine → CheckAnswer) → ((lines : List TextLine) → other lines ≡ whole lines) → ReadsOn a b whole rest → ReadsOn a b other rest
begins a b whole other rest same x = record {
  reading = x.reading;
  world = x.world;
  later = x.later;
  carries = λ v h. answers_alike a.told a.reading.lines other whole v same (x.carries v h);
}

pub begins_end : (a b : Spot) (whole other : List TextLine → CheckAnswer) (v : Verdict) → ((lines : List TextLine) → other lines ≡ whole lines) → EndsCheck a b whole v → EndsCheck a b other v
begins_end a b whole other v same x = record { answer = answers_alike a.told a.reading.lines other whole v same x.answer; world = x.world; later = x.later; cause = x.cause }

-- what is left says this verdict
pub says : (a b : Spot) (whole rest : List TextLine → CheckAnswer) (v : Verdict) → ((lines : List TextLine) → Says (rest lines) v) → VerdictCause a.faults b.faults v → ReadsOn a b whole rest → EndsCheck a b whole v
says a b whole rest v same cause x = record { answer = x.carries v (always b.told b.reading.lines rest v same); world = x.world; later = x.later; cause = cause }

-- what a step handed over, where it went on and where it was the last
pub went_on : {X : Type 0} (a b : Spot) (whole : List TextLine → CheckAnswer) (rest : X → List TextLine → CheckAnswer) (r : Result X Verdict) (x : X) → r ≡ Ok x → HandsOver a b whole rest r → ReadsOn a b whole (rest x)
went_on a b whole rest r x is h = MatchResult-at_ok (λ y. ReadsOn a b whole (rest y)) (EndsCheck a b whole) x is h

pub was_last : {X : Type 0} (a b : Spot) (whole : List TextLine → CheckAnswer) (rest : X → List TextLine → CheckAnswer) (r : Result X Verdict) (v : Verdict) → r ≡ Err v → HandsOver a b whole rest r → EndsCheck a b whole v
was_last a b whole rest r v is h = MatchResult-at_err (λ y. ReadsOn a b whole (rest y)) (EndsCheck a b whole) v is h

-- the exit of a `?` hands over what the step before it was the last with
pub left_off : {X : Type 0} (a b : Spot) (whole : List TextLine → CheckAnswer) (rest : X → List TextLine → CheckAnswer) (r : Result X Verdict) (v : Verdict) → IsErrAnd r (λ y. y ≡ v) → EndsCheck a b whole v → HandsOver a b whole rest r
left_off a b whole rest (Ok x) v is h = absurd is
left_off a b whole rest (Err y) v is h = subst (EndsCheck a b whole) (sym is) h

-- the same for what holds of the last
pub exits : {X : Type 0} (Q : Verdict → Type 0) (r : Result X Verdict) (v : Verdict) → IsErrAnd r (λ y. y ≡ v) → Q v → IfErr r Q
exits Q (Ok x) v is h = absurd is
exits Q (Err y) v is h = subst Q (sym is) h

-- a test fails
pub fails : (a b : Spot) (whole rest : List TextLine → CheckAnswer) (v : Verdict) (number : ℕ) (why : Reason) → v ≡ verdict.Rejected number why → ((lines : List TextLine) → rest lines ≡ rejected number why) → ReadsOn a b whole rest → EndsCheck a b whole v
fails a b whole rest v number why is same x = rw is (says a b whole rest (verdict.Rejected number why) same tt x)

-- nothing was read of a file that is open
pub starts : (a : Spot) → IsOpen a.told → a.reading.lines ≡ record { count = 0; pending = []; line = [] } → a.reading.number ≡ 0 → IsReading a
starts a opened lines number = record {
  opened = opened;
  limit = omega (arith, ap (λ (r : LineState). r.count) lines);
  few = omega (arith, number);
  placed = by a.told;
}
  where
    by : (told : Option World) → IfSome told (λ _. IsPlaced a.reading)
    by None = tt
    by (Some w) = record { pending = omega (arith, ap (λ (r : LineState). length r.pending) lines); number = omega (arith, number) }

-- ---- the next line

-- what a call of the reader did
pub record Moves (a b : Spot) : Type 0 where
  pub world : b.told ≡ moved_by (b.reading.lines.count - a.reading.lines.count) a.told
  pub count : a.reading.lines.count ≤ b.reading.lines.count
  pub later : a.faults ≤ b.faults

waits : (a : Spot) → IsReading a → Waits a.told a.reading.lines
waits a is = by a.told is.placed
  where
    by : (told : Option World) → IfSome told (λ _. IsPlaced a.reading) → Waits told a.reading.lines
    by None h = tt
    by (Some w) h = h.pending

pub moves_ends : (a b : Spot) (whole : List TextLine → CheckAnswer) (v : Verdict) → Moves a b → VerdictCause a.faults b.faults v → Answers a.told a.reading.lines whole v → EndsCheck a b whole v
moves_ends a b whole v moves cause answer = record {
  answer = answer;
  world = rw moves.world (only_moved (b.reading.lines.count - a.reading.lines.count) a.told);
  later = moves.later;
  cause = cause;
}

moves_on : (a b : Spot) (whole rest : List TextLine → CheckAnswer) → IsReading a → Moves a b → b.reading.lines.count ≤ 2 ^ 40 → b.reading.number ≤ 2 ^ 41 → IfSome a.told (λ _. IsPlaced b.reading)
    → ((v : Verdict) → Answers b.told b.reading.lines rest v → Answers a.told a.reading.lines whole v) → ReadsOn a b whole rest
moves_on a b whole rest is moves limit few placed carries = record {
  reading = record {
    opened = still_open (b.reading.lines.count - a.reading.lines.count) a.told b.told is.opened moves.world;
    limit = limit;
    few = few;
    placed = still (b.reading.lines.count - a.reading.lines.count) a.told b.told moves.world placed;
  };
  world = rw moves.world (only_moved (b.reading.lines.count - a.reading.lines.count) a.told);
  later = moves.later;
  carries = carries;
}
  where
    still : (k : ℕ) (old new : Option World) → new ≡ moved_by k old → IfSome old (λ _. IsPlaced b.reading) → IfSome new (λ _. IsPlaced b.reading)
    still k None new e h = rw e tt
    still k (Some w) new e h = rw e h

placed_more : (a b : Spot) → IfSome a.told (λ _. IsPlaced a.reading) → b.reading.number ≡ a.reading.number + 1 → IfSome a.told (λ _. (length b.reading.lines.pending ≤ b.reading.lines.count) × (line_start a.reading.lines < line_start b.reading.lines)) → IfSome a.told (λ _. IsPlaced b.reading)
placed_more a b was one further = by a.told was further
  where
    by : (told : Option World) → IfSome told (λ _. IsPlaced a.reading) → IfSome told (λ _. (length b.reading.lines.pending ≤ b.reading.lines.count) × (line_start a.reading.lines < line_start b.reading.lines)) → IfSome told (λ _. IsPlaced b.reading)
    by None h f = tt
    by (Some w) h f = record { pending = f.0; number = omega (arith, h.number, f.1, one) }

placed_same : (a b : Spot) → IfSome a.told (λ _. IsPlaced a.reading) → b.reading.number ≡ a.reading.number → IfSome a.told (λ _. (length b.reading.lines.pending ≤ b.reading.lines.count) × (line_start a.reading.lines ≤ line_start b.reading.lines)) → IfSome a.told (λ _. IsPlaced b.reading)
placed_same a b was same further = by a.told was further
  where
    by : (told : Option World) → IfSome told (λ _. IsPlaced a.reading) → IfSome told (λ _. (length b.reading.lines.pending ≤ b.reading.lines.count) × (line_start a.reading.lines ≤ line_start b.reading.lines)) → IfSome told (λ _. IsPlaced b.reading)
    by None h f = tt
    by (Some w) h f = record { pending = f.0; number = omega (arith, h.number, f.1, same) }

-- a line is read
pub line_on : (a b : Spot) → IsReading a → Moves a b → b.reading.lines.count ≤ 2 ^ 40 → a.reading.number < 2 ^ 41 → b.reading.number ≡ a.reading.number + 1 → (size : ℕ) (l : Line) → l ≡ line.Text size true → IsLine a.told a.reading.lines b.reading.lines l → HoldsLine b.reading.lines l
    → (word : CertWord) (numbers : List ℤ) → line_reading b.reading.lines.line ≡ Some (record { word = word; numbers = numbers }) → (number : ℕ) (next : CertLine → List TextLine → CheckAnswer) → ReadsOn a b (λ lines. spelled number lines next) (next (record { word = word; numbers = numbers }))
line_on a b is moves limit few one size l at was holds word numbers read number next =
    let there = subst (IsLine a.told a.reading.lines b.reading.lines) at was in
    let held = subst (HoldsLine b.reading.lines) at holds in
    moves_on a b (λ lines. spelled number lines next) (next (record { word = word; numbers = numbers })) is moves limit (omega arith)
    (placed_more a b is.placed one (head_advances a.told a.reading.lines b.reading.lines size (waits a is) there held moves.count limit))
    (λ v later. head_ended a.told b.told a.reading.lines b.reading.lines size (waits a is) there held moves.world moves.count limit (λ lines. spelled number lines next) v
    (answers_alike b.told b.reading.lines _ (next (record { word = word; numbers = numbers })) v (λ rest. ap (λ (o : Option CertLine). with_line number o (λ x. next x rest)) read) later))

-- the line is here, but not spelled right
pub line_misspelled : (a b : Spot) → IsReading a → Moves a b → b.reading.lines.count ≤ 2 ^ 40 → (size : ℕ) (l : Line) → l ≡ line.Text size true → IsLine a.told a.reading.lines b.reading.lines l → HoldsLine b.reading.lines l
    → (number : ℕ) → line_reading b.reading.lines.line ≡ None → (next : CertLine → List TextLine → CheckAnswer) → EndsCheck a b (λ lines. spelled number lines next) (verdict.Rejected number reason.Spelling)
line_misspelled a b is moves limit size l at was holds number read next =
    moves_ends a b (λ lines. spelled number lines next) (verdict.Rejected number reason.Spelling) moves tt
    (head_ended a.told b.told a.reading.lines b.reading.lines size (waits a is) (subst (IsLine a.told a.reading.lines b.reading.lines) at was) (subst (HoldsLine b.reading.lines) at holds) moves.world moves.count limit (λ lines. spelled number lines next) (verdict.Rejected number reason.Spelling)
    (always b.told b.reading.lines _ (verdict.Rejected number reason.Spelling) (λ rest. ap (λ (o : Option CertLine). with_line number o (λ x. next x rest)) read)))

-- the line has no LF
pub line_unended : (a b : Spot) → IsReading a → Moves a b → b.reading.lines.count ≤ 2 ^ 40 → (size : ℕ) (l : Line) → l ≡ line.Text size false → IsLine a.told a.reading.lines b.reading.lines l → HoldsLine b.reading.lines l
    → (number : ℕ) (next : CertLine → List TextLine → CheckAnswer) → EndsCheck a b (λ lines. spelled number lines next) (verdict.Rejected number reason.Spelling)
line_unended a b is moves limit size l at was holds number next =
    moves_ends a b (λ lines. spelled number lines next) (verdict.Rejected number reason.Spelling) moves tt
    (head_unended a.told a.reading.lines b.reading.lines size (waits a is) (subst (IsLine a.told a.reading.lines b.reading.lines) at was) (subst (HoldsLine b.reading.lines) at holds) moves.count limit (λ lines. spelled number lines next) (verdict.Rejected number reason.Spelling) refl)

-- the text has ended
pub line_missing : (a b : Spot) → Moves a b → (l : Line) → l ≡ line.End → IsLine a.told a.reading.lines b.reading.lines l → (number : ℕ) (next : CertLine → List TextLine → CheckAnswer) → EndsCheck a b (λ lines. spelled number lines next) (verdict.Rejected number reason.Short)
line_missing a b moves l at was number next =
    moves_ends a b (λ lines. spelled number lines next) (verdict.Rejected number reason.Short) moves tt (head_end a.told a.reading.lines b.reading.lines (subst (IsLine a.told a.reading.lines b.reading.lines) at was) (λ lines. spelled number lines next) (verdict.Rejected number reason.Short) refl)

-- the line is too long
pub line_long : (a b : Spot) → IsReading a → Moves a b → (s : LineStop) → s ≡ stop.LineTooLong → LineCause a.told a.reading.lines a.faults b.faults s → (number : ℕ) (next : CertLine → List TextLine → CheckAnswer) → EndsCheck a b (λ lines. spelled number lines next) (verdict.Rejected number reason.Spelling)
line_long a b is moves s at why number next =
    moves_ends a b (λ lines. spelled number lines next) (verdict.Rejected number reason.Spelling) moves tt
    (head_long_line a.told a.reading.lines a.faults b.faults (waits a is) (subst (LineCause a.told a.reading.lines a.faults b.faults) at why) is.limit (λ lines. spelled number lines next) (verdict.Rejected number reason.Spelling) (λ rest. refl))

-- the file is too long
pub line_far : (a b : Spot) → IsReading a → Moves a b → (s : LineStop) → s ≡ stop.TooLong → LineCause a.told a.reading.lines a.faults b.faults s → (number : ℕ) (next : CertLine → List TextLine → CheckAnswer) → EndsCheck a b (λ lines. spelled number lines next) verdict.TooLong
line_far a b is moves s at why number next =
    moves_ends a b (λ lines. spelled number lines next) verdict.TooLong moves tt
    (head_long_file a.told a.reading.lines a.faults b.faults (waits a is) (subst (LineCause a.told a.reading.lines a.faults b.faults) at why) is.limit (λ lines. spelled number lines next) verdict.TooLong (λ rest. refl))

-- a read failed
pub read_failed : (a b : Spot) → Moves a b → (s : LineStop) → s ≡ stop.Failed → LineCause a.told a.reading.lines a.faults b.faults s → (whole : List TextLine → CheckAnswer) → EndsCheck a b whole verdict.Failed
read_failed a b moves s at why whole =
    moves_ends a b whole verdict.Failed moves (subst (LineCause a.told a.reading.lines a.faults b.faults) at why) (always a.told a.reading.lines whole verdict.Failed (λ lines. tt))

-- no text has so many lines
pub too_many : (a : Spot) → IsReading a → 2 ^ 41 ≤ a.reading.number → (number : ℕ) (next : CertLine → List TextLine → CheckAnswer) → EndsCheck a a (λ lines. spelled number lines next) verdict.TooLong
too_many a is many number next = record { answer = by a.told is.placed; world = refl; later = omega arith; cause = tt }
  where
    by : (told : Option World) → IfSome told (λ _. IsPlaced a.reading) → Answers told a.reading.lines (λ lines. spelled number lines next) verdict.TooLong
    by None h = (long_file ∷ [], refl)
    by (Some w) h = absurd (omega (arith, h.number, h.pending, is.limit, many))

-- ---- behind the end

tail_text : (a b : Spot) → IsReading a → Moves a b → b.reading.lines.count ≤ 2 ^ 40 → (size : ℕ) (ended : Bool) → IsLine a.told a.reading.lines b.reading.lines (line.Text size ended) → HoldsLine b.reading.lines (line.Text size ended) → (value bound : ℤ) (number : ℕ) → Answers a.told a.reading.lines (tail_step value bound number) (verdict.Rejected number reason.Tail)
tail_text a b is moves limit size true was holds value bound number =
    head_ended a.told b.told a.reading.lines b.reading.lines size (waits a is) was holds moves.world moves.count limit (tail_step value bound number) (verdict.Rejected number reason.Tail) (always b.told b.reading.lines _ (verdict.Rejected number reason.Tail) (λ lines. refl))
tail_text a b is moves limit size false was holds value bound number =
    head_unended a.told a.reading.lines b.reading.lines size (waits a is) was holds moves.count limit (tail_step value bound number) (verdict.Rejected number reason.Tail) refl

pub tail_line : (a b : Spot) → IsReading a → Moves a b → b.reading.lines.count ≤ 2 ^ 40 → (size : ℕ) (ended : Bool) (l : Line) → l ≡ line.Text size ended → IsLine a.told a.reading.lines b.reading.lines l → HoldsLine b.reading.lines l → (value bound : ℤ) (number : ℕ) → EndsCheck a b (tail_step value bound number) (verdict.Rejected number reason.Tail)
tail_line a b is moves limit size ended l at was holds value bound number =
    moves_ends a b (tail_step value bound number) (verdict.Rejected number reason.Tail) moves tt
    (tail_text a b is moves limit size ended (subst (IsLine a.told a.reading.lines b.reading.lines) at was) (subst (HoldsLine b.reading.lines) at holds) value bound number)

pub tail_long : (a b : Spot) → IsReading a → Moves a b → (s : LineStop) → s ≡ stop.LineTooLong → LineCause a.told a.reading.lines a.faults b.faults s → (value bound : ℤ) (number : ℕ) → EndsCheck a b (tail_step value bound number) (verdict.Rejected number reason.Tail)
tail_long a b is moves s at why value bound number =
    moves_ends a b (tail_step value bound number) (verdict.Rejected number reason.Tail) moves tt
    (head_long_line a.told a.reading.lines a.faults b.faults (waits a is) (subst (LineCause a.told a.reading.lines a.faults b.faults) at why) is.limit (tail_step value bound number) (verdict.Rejected number reason.Tail) (λ rest. refl))

pub tail_far : (a b : Spot) → IsReading a → Moves a b → (s : LineStop) → s ≡ stop.TooLong → LineCause a.told a.reading.lines a.faults b.faults s → (value bound : ℤ) (number : ℕ) → EndsCheck a b (tail_step value bound number) verdict.TooLong
tail_far a b is moves s at why value bound number =
    moves_ends a b (tail_step value bound number) verdict.TooLong moves tt
    (head_long_file a.told a.reading.lines a.faults b.faults (waits a is) (subst (LineCause a.told a.reading.lines a.faults b.faults) at why) is.limit (tail_step value bound number) verdict.TooLong (λ rest. refl))

pub tail_none : (a b : Spot) → IsReading a → Moves a b → b.reading.lines.count ≤ 2 ^ 40 → b.reading.number ≡ a.reading.number → (l : Line) → l ≡ line.End → IsLine a.told a.reading.lines b.reading.lines l → (value bound : ℤ) (number : ℕ) → ReadsOn a b (tail_step value bound number) (λ _. accepted value bound)
tail_none a b is moves limit same l at was value bound number =
    let there = subst (IsLine a.told a.reading.lines b.reading.lines) at was in
    moves_on a b (tail_step value bound number) (λ _. accepted value bound) is moves limit (omega (arith, is.few, same))
    (placed_same a b is.placed same (end_advances a.told a.reading.lines b.reading.lines there moves.count))
    (λ v later. head_end a.told a.reading.lines b.reading.lines there (tail_step value bound number) v (said b.told b.reading.lines v later))
  where
    said : (told : Option World) (r : LineState) (v : Verdict) → Answers told r (λ _. accepted value bound) v → Says (accepted value bound) v
    said None r v h = h.1
    said (Some w) r v h = h

-- ---- the word that is due

-- the test of two words
pub due_test : (due word : CertWord) → is_due due word ≡ sameb the_type word due
due_test Version Version = refl
due_test Objects Objects = refl
due_test OrderLine OrderLine = refl
due_test Value Value = refl
due_test Bound Bound = refl
due_test Cuts Cuts = refl
due_test RecordsLine RecordsLine = refl
due_test RecordLine RecordLine = refl
due_test Dicycle Dicycle = refl
due_test Fence Fence = refl
due_test Ladder Ladder = refl
due_test SplitLine SplitLine = refl
due_test Leaf Leaf = refl
due_test End End = refl
due_test due word = refl

-- what follows a line that has the due word
abbrev pub due_next : CertWord → (ℕ → List ℤ → List TextLine → CheckAnswer) → ℕ → CertLine → List TextLine → CheckAnswer
due_next due next number line rest = cond (is_due due line.word) (next number line.numbers rest) (rejected number reason.Spelling)

-- a line that was read has the due word
pub due_on : (a b : Spot) (whole : List TextLine → CheckAnswer) (number : ℕ) (due word : CertWord) (numbers : List ℤ) (found : Bool) (next : List ℤ → List TextLine → CheckAnswer) → found ≡ sameb the_type word due → found ≡ true
    → ReadsOn a b whole (λ lines. cond (is_due due word) (next numbers lines) (rejected number reason.Spelling)) → ReadsOn a b whole (next numbers)
due_on a b whole number due word numbers found next is so x =
    passes a b whole (λ lines. cond (is_due due word) (next numbers lines) (rejected number reason.Spelling)) (next numbers) (λ lines. ap (λ (t : Bool). cond t (next numbers lines) (rejected number reason.Spelling)) (due_test due word ∙ sym is ∙ so)) x

-- or another
pub due_fails : (a b : Spot) (whole : List TextLine → CheckAnswer) (number : ℕ) (due word : CertWord) (numbers : List ℤ) (found : Bool) (next : List ℤ → List TextLine → CheckAnswer) → found ≡ sameb the_type word due → found ≡ false
    → ReadsOn a b whole (λ lines. cond (is_due due word) (next numbers lines) (rejected number reason.Spelling)) → EndsCheck a b whole (verdict.Rejected number reason.Spelling)
due_fails a b whole number due word numbers found next is never x =
    says a b whole (λ lines. cond (is_due due word) (next numbers lines) (rejected number reason.Spelling)) (verdict.Rejected number reason.Spelling)
    (λ lines. ap (λ (t : Bool). cond t (next numbers lines) (rejected number reason.Spelling)) (due_test due word ∙ sym is ∙ never)) tt x

-- ---- tests of numbers

pub not_eqb : (a b : ℕ) → a ≢ b → eqb a b ≡ false
not_eqb a b ne = grind (arith, nat_tests)

pub same_both : (x y : ℤ) → x ≡ y → (int_le x y && int_le y x) ≡ true
same_both x y e = both_true (int_le x y) (int_le y x) (le_test x y (omega (arith, ints))) (le_test y x (omega (arith, ints)))
  where
    le_test : (a b : ℤ) → a ≤ℤ b → int_le a b ≡ true
    le_test a b l = grind (arith, ints)

    both_true : (a b : Bool) → a ≡ true → b ≡ true → (a && b) ≡ true
    both_true true b e f = f
    both_true false b e f = absurd cc

pub not_both : (x y : ℤ) → (x ≡ y → ⊥) → (int_le x y && int_le y x) ≡ false
not_both x y ne = by_tests (int_le x y) (int_le y x) (λ e f. ne (same x y (le_from x y e) (le_from y x f)))
  where
    le_from : (a b : ℤ) → int_le a b ≡ true → a ≤ℤ b
    le_from a b e = grind (arith, ints)

    same : (a b : ℤ) → a ≤ℤ b → b ≤ℤ a → a ≡ b
    same a b l m = omega (arith, ints)

    by_tests : (a b : Bool) → (a ≡ true → b ≡ true → ⊥) → (a && b) ≡ false
    by_tests true true h = absurd (h refl refl)
    by_tests true false h = refl
    by_tests false b h = refl

pub lt_test : (x y : ℤ) → x <ℤ y → int_lt x y ≡ true
lt_test x y l = grind (arith, ints)

pub not_lt_test : (x y : ℤ) → y ≤ℤ x → int_lt x y ≡ false
not_lt_test x y l = grind (arith, ints)
