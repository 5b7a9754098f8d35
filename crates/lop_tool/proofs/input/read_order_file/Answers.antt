use Rattle.lop_tool.proofs.ValueLemmas.{named_order}
use Rattle.lop_tool.proofs.input.read_order_file.Goals as goal

pub returns-in-Ok-clause-input : goal.returns-in-Ok-clause-input
returns-in-Ok-clause-input g c = named_order c.args.n c.args.file.now (g.D.Desk.told c.args.desk.now) c.in-Ok.bytes.items c.order_in.result c.in-Ok.ensures.bytes.file (rw c.deref.ensures.value at c.order_in.ensures.input)
