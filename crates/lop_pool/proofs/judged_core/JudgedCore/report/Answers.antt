use Rattle.std.proofs.Common.{sym, subst}
use Rattle.lop_core.specs.Machine.{IsOutTo}
use Rattle.lop_core.specs.Core.{CoreFields}
use Rattle.lop_core.proofs.Alone.{taken_in}
use Rattle.lop_pool.specs.Judged.{IsJudgedResult}
use Rattle.lop_pool.proofs.HoldingLemmas.{report_judged}
use Rattle.lop_pool.proofs.judged_core.JudgedCore.report.Goals as goal

pub invariant_of-self : goal.invariant_of-self
invariant_of-self g c =
    let out : IsOutTo c.self.inside.core.state c.args.worker c.args.found.now.node = subst (λ (x : CoreFields). IsOutTo x.state c.args.worker c.args.found.now.node) (sym c.self.view_is) c.requires.out in
    let result : IsJudgedResult g.J.Judge.judged c.self.inside.core.problem.weights c.self.inside.core.state c.args.found.now =
    subst (λ (x : CoreFields). IsJudgedResult g.J.Judge.judged x.problem.weights x.state c.args.found.now) (sym c.self.view_is) c.requires.judged in
    let told = taken_in c.self.inside.core c.report.new.self c.args.worker c.args.found.now c.report.result out c.report.ensures.step in
    report_judged g.J.Judge.judged c.self.inside.core c.report.new.self c.args.worker c.args.found.now told c.evaluated-before.ensures.history result c.self.invariant
