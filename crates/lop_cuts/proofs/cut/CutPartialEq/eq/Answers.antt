use Rattle.std.proofs.Common.{sym, ◌∙◌}
use Rattle.lop_cuts.proofs.EqLemmas.{kind_Decides}
use Rattle.lop_cuts.proofs.cut.CutPartialEq.eq.Goals as goal

pub returns-clause-same : goal.returns-clause-same
returns-clause-same c =
    rw (← c.self.view_is, ← c.other.view_is)
    (λ t. (kind_Decides _ _).0 (sym c.eq.ensures ∙ t), λ e. c.eq.ensures ∙ (kind_Decides _ _).1 e)
