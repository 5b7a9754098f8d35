use Rattle.std.proofs.Common.{◌∙◌, subst, arith}
use Rattle.lop_model.specs.Order.{IsOrder}
use Rattle.lop_climb.specs.Insertion.{no_move}
use Rattle.lop_climb.proofs.ClimbLemmas.{IsClimb-on}
use Rattle.lop_climb.proofs.ascent.ascend.Goals as goal

pub loop-moves-init : goal.loop-moves-init
loop-moves-init c = record {
  order = subst (λ n. IsOrder n c.args.order.now) (c.n.ensures.size ∙ c.requires) c.n.ensures.order;
  moves = no_move;
  within = omega arith;
}

pub loop-moves-preserved : goal.loop-moves-preserved
loop-moves-preserved c = record {
  order = c.pass-made.ensures.order;
  moves = IsClimb-on c.args.weights.now c.args.order.now c.loop-moves.order c.pass-made.new.order c.loop-moves.moves c.pass-made.result c.loop-moves.invariant.moves c.pass-made.ensures.moves;
  within = omega arith;
}
