use Rattle.std.proofs.Common.{◌≡◌, ◌<◌}
use Rattle.lop_model.specs.Order.{IsOrder}
use Rattle.lop_climb.specs.Insertion.{IsClimb}
use Rattle.lop_climb.proofs.ClimbLemmas.{HasNoGain}
use Rattle.lop_climb.proofs.ascent.pass.Given as goal

abbrev pub invariant-loop-place : goal.invariant-loop-place
invariant-loop-place l = record {
  order : IsOrder l.weights.size l.order;
  moves : IsClimb l.weights l.fn.order l.made l.order;
  below : l.made < l.most;
  none : l.made ≡ 0 → HasNoGain l.weights l.order l.place;
}
