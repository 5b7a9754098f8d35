use Rattle.std.proofs.Common.{refl}
use Rattle.lop_core.proofs.CutIndexLemmas.{number_not_new}
use Rattle.lop_core.proofs.records.number_of.Goals as goal

pub returns-in-Some-clause-cuts : goal.returns-in-Some-clause-cuts
returns-in-Some-clause-cuts c = rw (number_not_new c.args.cuts.now c.args.cut.now _ c.in-Some.ensures) refl
