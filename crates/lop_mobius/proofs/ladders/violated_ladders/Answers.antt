use Rattle.lop_cuts.proofs.GainLemmas.{gains_then, gains_front, gains_room, gains_cuts, gains_fit, gains_violated}
use Rattle.lop_mobius.proofs.ladders.violated_ladders.Goals as goal

pub returns-clause-front : goal.returns-clause-front
returns-clause-front c = gains_front _ _ _ (gains_then _ _ _ _ c.try_all.ensures.gains c.try_all-2.ensures.gains)

pub returns-clause-room : goal.returns-clause-room
returns-clause-room c = gains_room _ _ _ (gains_then _ _ _ _ c.try_all.ensures.gains c.try_all-2.ensures.gains)

pub returns-clause-cuts : goal.returns-clause-cuts
returns-clause-cuts c = gains_cuts _ _ _ (gains_then _ _ _ _ c.try_all.ensures.gains c.try_all-2.ensures.gains)

pub returns-clause-fit : goal.returns-clause-fit
returns-clause-fit c = gains_fit _ _ _ (gains_then _ _ _ _ c.try_all.ensures.gains c.try_all-2.ensures.gains)

pub returns-clause-violated : goal.returns-clause-violated
returns-clause-violated c = gains_violated _ _ _ (gains_then _ _ _ _ c.try_all.ensures.gains c.try_all-2.ensures.gains)
