use Rattle.std.proofs.Common.{subst}
use Rattle.lop_core.specs.Core.{HasHistory}
use Rattle.lop_pool.proofs.RelayLemmas.{others_stay}
use Rattle.lop_pool.proofs.RiseLemmas.{evaluated_rises}
use Rattle.lop_pool.proofs.closing.settle.Goals as goal

pub returns-clause-others : goal.returns-clause-others
returns-clause-others g c = λ other ne. others_stay c.args.number other c.args.core.now.journal c.report_held.new.core.journal c.report_held.ensures.grown ne

pub returns-clause-rises : goal.returns-clause-rises
returns-clause-rises g c =
    let before : HasHistory c.args.core.now = subst HasHistory c.core.ensures c.evaluated-before.ensures.history in
    let after : HasHistory c.report_held.new.core = subst HasHistory c.core-2.ensures c.evaluated-after.ensures.history in
    evaluated_rises c.args.core.now c.report_held.new.core before after (c.report_held.ensures.grown.0, c.report_held.ensures.grown.1)
