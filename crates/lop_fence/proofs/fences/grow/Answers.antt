use Rattle.std.proofs.Common.{arith}
use Rattle.lop_cuts.proofs.GainLemmas.{gains_then}
use Rattle.lop_fence.proofs.fences.grow.Goals as goal

pub loop-k-preserved : goal.loop-k-preserved
loop-k-preserved c = record {
  posts = omega arith;
  gains = gains_then _ _ _ _ c.loop-k.invariant.gains c.offer_fence.ensures.gains;
  within = c.offer_fence.ensures.within;
  room = cc;
}
