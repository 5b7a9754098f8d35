use Rattle.std.proofs.Common.{[], ◌∷◌, length, arith, pos}
use Rattle.lop_certwrite.proofs.LeafLemmas.{cycle_more, shaped_more}
use Rattle.lop_certwrite.proofs.cut.push_cycles.Goals as goal

pub loop-cycle-preserved : goal.loop-cycle-preserved
loop-cycle-preserved c =
    let inside = c.loop-cycle-test.true in
    let more = c.push_cycle.ensures.len in
    let before = c.loop-cycle.invariant.len in
    record {
      items = cycle_more c.args.cycles.now (pos (length c.args.cycles.now) ∷ []) _ _ c.loop-cycle.cycle-index _ c.loop-cycle.invariant.items c.push_cycle.ensures.items inside;
      len = omega arith;
      shaped = shaped_more c.args.cycles.now c.loop-cycle.cycle-index _ c.loop-cycle.invariant.shaped c.push_cycle.ensures.shaped inside;
    }
