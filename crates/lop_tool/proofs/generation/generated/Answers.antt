use Rattle.std.proofs.Common.{refl, arith}
use Rattle.lop_tool.proofs.Ends.{ends_right}
use Rattle.lop_tool.proofs.GenLemmas.{gen_right}
use Rattle.lop_tool.proofs.generation.generated.Goals as goal

pub returns-in-Ok-clause-ended : goal.returns-in-Ok-clause-ended
returns-in-Ok-clause-ended g c = ends_right _ _ _ _ _ (g.D.Desk.told c.args.desk.now) _ _ (g.D.Desk.faults c.args.desk.now) _ _ (gen_right _ _ _ _ c.in-Ok.ensures) refl (omega arith) c.deliver.ensures.delivered
