use Rattle.std.proofs.Common.{◌+◌, ◌-◌, length}
use Rattle.lop_model.specs.Closing.{closed}
use Rattle.lop_certtext.specs.Answer.{cuts_step, cuts_left_step}
use Rattle.lop_check.specs.Walk.{ReadsOn, spot}
use Rattle.lop_check.specs.Nodes.{AreRightCuts}
use Rattle.lop_check.proofs.cuts.cut_lines.Given as goal

abbrev pub invariant-lines : goal.invariant-lines
invariant-lines g l = record {
  right : AreRightCuts l.weights.size l.cuts.items;
  so_far : ReadsOn (spot (g.D.Desk.told l.fn.desk) (g.D.Desk.faults l.fn.desk) l.fn.reading) (spot (g.D.Desk.told l.desk) (g.D.Desk.faults l.desk) l.reading) (cuts_step closed l.weights l.fn.claim.version l.fn.claim.value l.fn.claim.bound (l.fn.reading.number + 1)) (cuts_left_step closed l.weights l.fn.claim.version l.fn.claim.value l.fn.claim.bound (l.count - length l.cuts.items) l.cuts.items (l.reading.number + 1));
}

abbrev pub decreases-lines : goal.decreases-lines
decreases-lines g l = l.count - length l.cuts.items
