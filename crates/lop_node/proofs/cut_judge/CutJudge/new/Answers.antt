use Rattle.std.proofs.Common.{sym, ◌∙◌}
use Rattle.lop_node.proofs.cut_judge.CutJudge.new.Goals as goal

pub invariant_of-result : goal.invariant_of-result
invariant_of-result c = (c.in_ok-new-2.ensures.0 ∙ sym c.in_ok-new.ensures, c.in_ok-new-3.ensures ∙ sym c.in_ok-new.ensures, c.in_ok-new-4.ensures ∙ sym c.in_ok-new.ensures)
