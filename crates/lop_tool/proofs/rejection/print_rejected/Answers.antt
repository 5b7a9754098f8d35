use Rattle.lop_tool.proofs.rejection.print_rejected.Goals as goal

pub returns-clause-effect : goal.returns-clause-effect
returns-clause-effect g c = rw (c.bytes.ensures, c.put-4.ensures, c.put_reason.ensures.text, c.put-3.ensures, c.put-2.ensures, c.as_bytes.ensures.value, c.format.ensures.text, c.put.ensures, c.clear.ensures) at c.print_all.ensures.effect
