use Rattle.lop_tool.proofs.ValueLemmas.{refused_order, order_stop}
use Rattle.lop_tool.proofs.weighing.weigh_order.Goals as goal

pub returns-in-Ok-Err-clause-stop : goal.returns-in-Ok-Err-clause-stop
returns-in-Ok-Err-clause-stop g c = refused_order _ _ _ _ (rw (c.in-Ok-Err.field-0-is, c.n.ensures.size) at c.in-Ok-Err.ensures.input)

pub returns-in-Err-clause-stop : goal.returns-in-Err-clause-stop
returns-in-Err-clause-stop g c = order_stop _ _ _ _ _ c.in-Err.stop c.in-Err.ensures.stop
