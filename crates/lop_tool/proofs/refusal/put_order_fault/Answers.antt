use Rattle.std.proofs.Common.{refl}
use Rattle.lop_tool.proofs.refusal.put_order_fault.Goals as goal

pub returns-in-Length-clause-words : goal.returns-in-Length-clause-words
returns-in-Length-clause-words c = rw (c.in-Length.is, c.put-in-Length.ensures.words, c.format-in-Length.ensures.text) refl

pub returns-in-Repeated-clause-words : goal.returns-in-Repeated-clause-words
returns-in-Repeated-clause-words c = rw (c.in-Repeated.is, c.put-in-Repeated.ensures.words, c.format-in-Repeated.ensures.text) refl
