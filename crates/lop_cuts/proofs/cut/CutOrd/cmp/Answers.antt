use Rattle.std.proofs.Common.{sym, ◌∙◌}
use Rattle.lop_cuts.proofs.EqLemmas.{kind_tied}
use Rattle.lop_cuts.proofs.cut.CutOrd.cmp.Goals as goal

pub returns-clause-tie : goal.returns-clause-tie
returns-clause-tie c =
    rw (← c.self.view_is, ← c.other.view_is)
    (λ t. (kind_tied _ _).0 (sym c.cmp.ensures ∙ t), λ e. c.cmp.ensures ∙ (kind_tied _ _).1 e)
