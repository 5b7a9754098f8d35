use Rattle.std.proofs.Common.{◌≤◌, ◌-◌}
use Rattle.lop_model.specs.Order.{IsOrder}
use Rattle.lop_climb.specs.Insertion.{IsClimb}
use Rattle.lop_climb.proofs.ascent.ascend.Given as goal

abbrev pub invariant-loop-moves : goal.invariant-loop-moves
invariant-loop-moves l = record {
  order : IsOrder l.weights.size l.order;
  moves : IsClimb l.weights l.fn.order l.moves l.order;
  within : l.moves ≤ l.limit;
}

abbrev pub decreases-loop-moves : goal.decreases-loop-moves
decreases-loop-moves l = l.limit - l.moves
