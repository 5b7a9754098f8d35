use Rattle.lop_cuts.proofs.GainLemmas.{gains_then}
use Rattle.lop_fence.proofs.fences.start_across.Goals as goal

pub loop-u-preserved : goal.loop-u-preserved
loop-u-preserved c = record {
  gains = gains_then _ _ _ _ c.loop-u.invariant.gains c.grow.ensures.gains;
  within = c.grow.ensures.within;
  room = cc;
}
