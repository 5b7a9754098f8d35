use Rattle.lop_simplex.proofs.RowLemmas.{arcs_below}
use Rattle.lop_simplex.proofs.pass.write_rests.Goals as goal

pub rest_of-requires-clause-below : goal.rest_of-requires-clause-below
rest_of-requires-clause-below c =
    arcs_below c.args.n c.args.rows.now c.loop-r.r c.index-rows-r.result _ _ c.requires.fit c.loop-r-test.true c.index-rows-r.is c.as_slice.ensures.value c.arcs.ensures.below
