use Rattle.lop_tool.proofs.Ends.{delivered_whole, delivered_part}
use Rattle.lop_tool.proofs.reply.deliver.Goals as goal

pub returns-in-Ok-print-clause-delivered : goal.returns-in-Ok-print-clause-delivered
returns-in-Ok-print-clause-delivered g c = delivered_whole _ _ _ _ _ (g.D.Desk.told c.leave_file.new.desk) _ _ _ (rw c.leave_file.ensures.same at c.status.ensures) c.in-Ok.ensures.effect (rw c.leave_file.ensures.same at c.in-Ok-print.ensures.effect)

pub returns-in-Err-print-clause-delivered : goal.returns-in-Err-print-clause-delivered
returns-in-Err-print-clause-delivered g c = delivered_part _ _ _ _ (g.D.Desk.told c.leave_file.new.desk) _ _ (g.D.Desk.faults c.leave_file.new.desk) _ c.in-Ok.ensures.effect c.in-Ok.ensures.cause.later c.in-Err-print.ensures.cause.failed (rw c.leave_file.ensures.same at c.in-Err-print.ensures.effect)
