use Rattle.std.proofs.Common.{◌∙◌, get_or, arith, refl, ap, sym, subst}
use Rattle.std.proofs.lemmas.Int.{ints}
use Rattle.lop_model.specs.Matrix.{Matrix}
use Rattle.lop_core.specs.Machine.{Problem}
use Rattle.lop_core.specs.Core.{CoreFields}
use Rattle.lop_pool.specs.Judged.{IsJudgedResult}
use Rattle.lop_pool.proofs.EventLemmas.{grown_same, grown_trans}
use Rattle.lop_pool.proofs.HoldingLemmas.{report_grown, report_best, reported}
use Rattle.lop_pool.specs.Marks.{GrowsWhole}
use Rattle.lop_pool.proofs.MarkLemmas.{whole_same, whole_trans, whole_report}
use Rattle.lop_pool.proofs.BatchLemmas.{held_result, held_node, after_report, none_left}
use Rattle.lop_pool.proofs.steps.report_held.Goals as goal

pub report-requires-clause-out : goal.report-requires-clause-out
report-requires-clause-out g c κs within =
    (held_result g.J.Judge.judged c.args.core.now.problem.weights c.args.number c.args.parcels.now c.loop-k.k c.args.held c.index-parcels-k.result c.loop-k.core.state c.loop-k-test.true
    c.loop-k.invariant.tickets c.requires.holds.results).0

pub report-requires-clause-judged : goal.report-requires-clause-judged
report-requires-clause-judged g c κs within =
    subst (λ (C : Matrix). IsJudgedResult g.J.Judge.judged C c.loop-k.core.state (get_or c.args.parcels.now c.loop-k.k c.index-parcels-k.result).found) (sym (ap (λ (q : Problem). q.weights) c.loop-k.invariant.same_problem))
    (held_result g.J.Judge.judged c.args.core.now.problem.weights c.args.number c.args.parcels.now c.loop-k.k c.args.held c.index-parcels-k.result c.loop-k.core.state c.loop-k-test.true
    c.loop-k.invariant.tickets c.requires.holds.results).1

pub loop-k-init : goal.loop-k-init
loop-k-init g c = record { same_problem = refl; grown = grown_same c.args.number c.args.core.now.journal; whole = whole_same c.args.core.now.problem c.args.core.now.state.best c.args.number c.args.core.now.journal; best = omega (arith, ints); tickets = c.requires.holds.tickets }

pub loop-k-preserved : goal.loop-k-preserved
loop-k-preserved g c =
    let step = reported c.loop-k.core c.report.new.self c.args.number (get_or c.args.parcels.now c.loop-k.k c.index-parcels-k.result).found c.report.ensures.before c.report.ensures.after c.report.ensures.step in
    record {
      same_problem = ap (λ (x : CoreFields). x.problem) c.report.ensures.step.noted ∙ c.loop-k.invariant.same_problem;
      grown = grown_trans c.args.number c.args.core.now.journal c.loop-k.core.journal c.report.new.self.journal c.loop-k.invariant.grown (report_grown c.loop-k.core c.report.new.self c.args.number (get_or c.args.parcels.now c.loop-k.k c.index-parcels-k.result).found c.report.ensures.step);
      whole = whole_trans c.args.core.now.problem c.args.core.now.state.best c.args.number c.args.core.now.journal c.loop-k.core.journal c.report.new.self.journal c.loop-k.invariant.whole
          (subst (λ (q : Problem). GrowsWhole q c.args.core.now.state.best c.args.number c.loop-k.core.journal c.report.new.self.journal) c.loop-k.invariant.same_problem
          (whole_report c.loop-k.core c.report.new.self c.args.number (get_or c.args.parcels.now c.loop-k.k c.index-parcels-k.result).found c.args.core.now.state.best c.report.ensures.before c.report.ensures.step c.loop-k.invariant.best));
      best = omega (arith, ints, c.loop-k.invariant.best, report_best c.loop-k.core c.report.new.self c.args.number (get_or c.args.parcels.now c.loop-k.k c.index-parcels-k.result).found c.report.ensures.step);
      tickets = after_report c.args.number c.args.parcels.now c.loop-k.k c.args.held (get_or c.args.parcels.now c.loop-k.k c.index-parcels-k.result).found c.loop-k.core.state c.report.new.self.state c.loop-k-test.true c.requires.within
          (held_node g.J.Judge.judged c.args.core.now.problem.weights c.args.parcels.now c.loop-k.k c.args.held c.index-parcels-k.result c.loop-k-test.true c.requires.within c.requires.holds.results) step.0 step.1 c.loop-k.invariant.tickets;
    }

pub returns-clause-none : goal.returns-clause-none
returns-clause-none g c = none_left c.args.number c.args.parcels.now c.loop-k.k c.args.held c.loop-k.core.state c.loop-k-test.false c.loop-k.invariant.tickets
