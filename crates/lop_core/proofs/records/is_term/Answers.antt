use Rattle.std.proofs.Common.{◌∙◌, ap}
use Rattle.lop_cuts.specs.Lagrangian.{Term}
use Rattle.lop_core.specs.Records.{cut_at}
use Rattle.lop_core.proofs.SameRecords.{term_same}
use Rattle.lop_core.proofs.records.is_term.Goals as goal

pub returns-then-own-term : goal.returns-then-own-term
returns-then-own-term c =
    term_same c.args.own.multiplier c.args.term.now.multiplier c.get.result.now c.term.inside.cut (cut_at c.args.cuts.now c.args.own.cut) c.args.term.now.cut c.eq.result
    (c.if-own-term.true ∙ ap (λ (t : Term). t.multiplier) c.term.view_is) c.eq.ensures.kind c.get.ensures.is_there (ap (λ (t : Term). t.cut) c.term.view_is)
