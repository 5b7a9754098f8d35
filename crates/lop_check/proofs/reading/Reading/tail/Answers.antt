use Rattle.std.proofs.Common.{refl}
use Rattle.lop_check.proofs.Walk.{tail_none, tail_line, tail_long, tail_far, read_failed}
use Rattle.lop_check.proofs.reading.Reading.tail.Goals as goal

pub returns-in-Ok-End : goal.returns-in-Ok-End
returns-in-Ok-End g c value bound =
    let arm = c.in-Ok-End in
    tail_none _ _ c.requires (record { world = arm.ensures.world; count = arm.ensures.count; later = arm.ensures.later }) arm.ensures.limit refl arm.field-0 arm.field-0-is arm.ensures.line value bound _

pub returns-in-Ok-Text : goal.returns-in-Ok-Text
returns-in-Ok-Text g c value bound =
    let arm = c.in-Ok-Text in
    tail_line _ _ c.requires (record { world = arm.ensures.world; count = arm.ensures.count; later = arm.ensures.later }) arm.ensures.limit arm.field-0-0 arm.field-0-1 arm.field-0 arm.field-0-is arm.ensures.line arm.ensures.text value bound _

pub returns-in-Err-LineTooLong : goal.returns-in-Err-LineTooLong
returns-in-Err-LineTooLong g c value bound =
    let arm = c.in-Err-LineTooLong in
    tail_long _ _ c.requires (record { world = arm.ensures.world; count = arm.ensures.count; later = arm.ensures.later }) arm.field-0 arm.field-0-is arm.ensures.cause value bound _

pub returns-in-Err-TooLong : goal.returns-in-Err-TooLong
returns-in-Err-TooLong g c value bound =
    let arm = c.in-Err-TooLong in
    tail_far _ _ c.requires (record { world = arm.ensures.world; count = arm.ensures.count; later = arm.ensures.later }) arm.field-0 arm.field-0-is arm.ensures.cause value bound _

pub returns-in-Err-Failed : goal.returns-in-Err-Failed
returns-in-Err-Failed g c value bound =
    let arm = c.in-Err-Failed in
    read_failed _ _ (record { world = arm.ensures.world; count = arm.ensures.count; later = arm.ensures.later }) arm.field-0 arm.field-0-is arm.ensures.cause _
