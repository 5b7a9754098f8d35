use Rattle.lop_cuts.proofs.GainLemmas.{gains_then}
use Rattle.lop_fence.proofs.fences.start_all.Goals as goal

pub loop-by-preserved : goal.loop-by-preserved
loop-by-preserved c = record {
  gains = gains_then _ _ _ _ c.loop-by.invariant.gains c.start_across.ensures.gains;
  within = c.start_across.ensures.within;
  room = cc;
}
