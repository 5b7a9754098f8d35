use Rattle.lop_simplex.proofs.RowLemmas.{arcs_below}
use Rattle.lop_simplex.proofs.pass.reduce.Goals as goal

pub reduce_by-requires-clause-below : goal.reduce_by-requires-clause-below
reduce_by-requires-clause-below c =
    arcs_below c.args.n c.args.rows.now c.loop-r.r c.index-rows-r.result _ _ c.requires.fit c.loop-r-test.true c.index-rows-r.is c.as_slice.ensures.value c.arcs.ensures.below
