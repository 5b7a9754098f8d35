use Rattle.lop_tool.proofs.dispatch.answer_words.Goals as goal

pub returns-in-Ok-clause-ended : goal.returns-in-Ok-clause-ended
returns-in-Ok-clause-ended g c = rw c.in-Ok.ensures.command c.obey.ensures.ended

pub returns-in-Err-Usage-clause-ended : goal.returns-in-Err-Usage-clause-ended
returns-in-Err-Usage-clause-ended g c = rw (rw c.in-Err-Usage.field-0-is at c.in-Err-Usage.ensures.fault) c.refuse_words.ensures.ended
