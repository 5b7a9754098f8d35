use Rattle.std.proofs.Common.{subst}
use Rattle.lop_core.specs.Machine.{Problem}
use Rattle.lop_pool.specs.Marks.{GrowsWhole}
use Rattle.lop_pool.proofs.MarkLemmas.{whole_trans}
use Rattle.lop_pool.proofs.steps.exchange.Goals as goal

pub returns-clause-whole : goal.returns-clause-whole
returns-clause-whole g c =
    whole_trans c.args.core.now.problem c.args.core.now.state.best c.args.number c.args.core.now.journal c.report_held.new.core.journal c.take_nodes.new.core.journal c.report_held.ensures.whole
    (subst (λ (q : Problem). GrowsWhole q c.args.core.now.state.best c.args.number c.report_held.new.core.journal c.take_nodes.new.core.journal) c.report_held.ensures.same_problem (c.take_nodes.ensures.whole c.args.core.now.state.best))
