use Rattle.lop_tool.proofs.reply.halt.Goals as goal

pub returns-in-Refused-clause-stopped : goal.returns-in-Refused-clause-stopped
returns-in-Refused-clause-stopped g c = rw c.in-Refused.is c.deliver.ensures.delivered
