use Rattle.std.proofs.Common.{Bool, ap, ◌∙◌, sym, arith, refl}
use Rattle.lop_desk.specs.declared.line.Line.TheVariants as line
use Rattle.lop_certtext.specs.Line.{line_reading}
use Rattle.lop_certtext.specs.Reading.{pieces}
use Rattle.lop_certtext.proofs.OnlyTrue.{row-pieces_reading}
use Rattle.lop_check.proofs.Walk.{line_on, line_misspelled, line_unended, line_missing, line_long, line_far, read_failed, too_many}
use Rattle.lop_check.proofs.reading.Reading.line.Goals as goal

pub returns-in-Ok-clause-goes : goal.returns-in-Ok-clause-goes
returns-in-Ok-clause-goes g c next =
    let arm = c.in-Ok-Text-default-true in
    let at = arm.field-0-is ∙ ap (λ (e : Bool). line.Text arm.field-0-0 e) arm.field-0-1-test in
    let read = ap line_reading (sym c.text.ensures) ∙ c.in-Ok.ensures.read in
    line_on _ _ c.requires (record { world = arm.ensures.world; count = arm.ensures.count; later = arm.ensures.later }) arm.ensures.limit (omega (arith, c.requires.few)) refl arm.field-0-0 arm.field-0 at arm.ensures.line arm.ensures.text c.in-Ok.word c.read_line.new.room read _ (next _)

pub returns-in-Err-clause-stops : goal.returns-in-Err-clause-stops
returns-in-Err-clause-stops g c next =
    let arm = c.in-Ok-Text-default-true in
    let at = arm.field-0-is ∙ ap (λ (e : Bool). line.Text arm.field-0-0 e) arm.field-0-1-test in
    let read = ap line_reading (sym c.text.ensures) ∙ c.in-Err.ensures.spelling.0 in
    rw c.rejected.ensures
    (line_misspelled _ _ c.requires (record { world = arm.ensures.world; count = arm.ensures.count; later = arm.ensures.later }) arm.ensures.limit arm.field-0-0 arm.field-0 at arm.ensures.line arm.ensures.text _ read (next _))

pub returns-in-Ok-Text-default-false-clause-stops : goal.returns-in-Ok-Text-default-false-clause-stops
returns-in-Ok-Text-default-false-clause-stops g c next =
    let arm = c.in-Ok-Text-default-false in
    let at = arm.field-0-is ∙ ap (λ (e : Bool). line.Text arm.field-0-0 e) arm.field-0-1-test in
    rw c.rejected-in-Ok-Text-default-false.ensures
    (line_unended _ _ c.requires (record { world = arm.ensures.world; count = arm.ensures.count; later = arm.ensures.later }) arm.ensures.limit arm.field-0-0 arm.field-0 at arm.ensures.line arm.ensures.text _ (next _))

pub returns-in-Ok-End-clause-stops : goal.returns-in-Ok-End-clause-stops
returns-in-Ok-End-clause-stops g c next =
    let arm = c.in-Ok-End in
    rw c.rejected-in-Ok-End.ensures (line_missing _ _ (record { world = arm.ensures.world; count = arm.ensures.count; later = arm.ensures.later }) arm.field-0 arm.field-0-is arm.ensures.line _ (next _))

pub returns-in-Err-LineTooLong-clause-stops : goal.returns-in-Err-LineTooLong-clause-stops
returns-in-Err-LineTooLong-clause-stops g c next =
    let arm = c.in-Err-LineTooLong in
    rw c.rejected-in-Err-LineTooLong.ensures (line_long _ _ c.requires (record { world = arm.ensures.world; count = arm.ensures.count; later = arm.ensures.later }) arm.field-0 arm.field-0-is arm.ensures.cause _ (next _))

pub returns-in-Err-TooLong-clause-stops : goal.returns-in-Err-TooLong-clause-stops
returns-in-Err-TooLong-clause-stops g c next =
    let arm = c.in-Err-TooLong in
    line_far _ _ c.requires (record { world = arm.ensures.world; count = arm.ensures.count; later = arm.ensures.later }) arm.field-0 arm.field-0-is arm.ensures.cause _ (next _)

pub returns-in-Err-Failed-clause-stops : goal.returns-in-Err-Failed-clause-stops
returns-in-Err-Failed-clause-stops g c next =
    let arm = c.in-Err-Failed in
    read_failed _ _ (record { world = arm.ensures.world; count = arm.ensures.count; later = arm.ensures.later }) arm.field-0 arm.field-0-is arm.ensures.cause _

pub returns-in-Ok-clause-row : goal.returns-in-Ok-clause-row
returns-in-Ok-clause-row g c = row-pieces_reading (pieces c.text.result.now) (record { word = c.in-Ok.word; numbers = c.read_line.new.room }) c.in-Ok.ensures.read

pub returns-then-self-eq-MOST_LINES-clause-stops : goal.returns-then-self-eq-MOST_LINES-clause-stops
returns-then-self-eq-MOST_LINES-clause-stops g c next = too_many _ c.requires (omega (arith, c.if-self-eq-MOST_LINES.true)) _ (next _)
