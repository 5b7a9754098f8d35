use Rattle.lop_cuts.proofs.GainLemmas.{gains_then}
use Rattle.lop_mobius.proofs.room.RingRoom.try_all.Goals as goal

pub loop-i-preserved : goal.loop-i-preserved
loop-i-preserved c = record {
  gains = gains_then _ _ _ _ c.loop-i.invariant.gains c.try_start.ensures.gains;
  within = c.try_start.ensures.within;
  room = cc;
  same = cc;
}
