use Rattle.std.proofs.Common.{◌∙◌}
use Rattle.std.proofs.lemmas.List.{length-set}
use Rattle.lop_basis.proofs.TableLemmas.{diagonal_more}
use Rattle.lop_basis.proofs.cells.write_identity.Goals as goal

pub loop-i-preserved : goal.loop-i-preserved
loop-i-preserved c =
    (length-set c.loop-i.cells _ _ ∙ c.loop-i.invariant.0, diagonal_more c.loop-i.cells c.args.n c.loop-i.i c.loop-i.invariant.0 c.loop-i-test.true c.loop-i.invariant.1)
