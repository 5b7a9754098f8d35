use Rattle.lop_tool.proofs.Ends.{ends_right, ends_stopped, at_rest-opened}
use Rattle.lop_tool.proofs.checking.check.Goals as goal

pub returns-in-Ok-clause-ended : goal.returns-in-Ok-clause-ended
returns-in-Ok-clause-ended g c = ends_right _ _ _ _ _ (g.D.Desk.told c.check_file.new.desk) _ _ (g.D.Desk.faults c.check_file.new.desk) _ _ c.in-Ok.ensures.right (at_rest-opened _ _ c.in-Ok.ensures.world) c.in-Ok.ensures.later c.deliver.ensures.delivered

pub returns-in-Err-clause-ended : goal.returns-in-Err-clause-ended
returns-in-Err-clause-ended g c = ends_stopped _ c.in-Err.stop _ (g.D.Desk.told c.check_file.new.desk) _ _ (g.D.Desk.faults c.check_file.new.desk) _ _ c.in-Err.ensures.stop (at_rest-opened _ _ c.in-Err.ensures.world) c.in-Err.ensures.later c.halt.ensures.later c.halt.ensures.stopped
