use Rattle.lop_pool.proofs.HoldingLemmas.{take_judged}
use Rattle.lop_pool.proofs.judged_core.JudgedCore.take.Goals as goal

pub invariant_of-self : goal.invariant_of-self
invariant_of-self g c = take_judged g.J.Judge.judged c.self.inside.core c.take-reply.new.self c.args.into.now c.take-reply.new.into c.args.worker c.take-reply.result c.take-reply.ensures.step c.self.invariant
