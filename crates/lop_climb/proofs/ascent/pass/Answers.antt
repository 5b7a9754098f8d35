use Rattle.std.proofs.Common.{◌≡◌, ◌∙◌, subst, length, arith}
use Rattle.std.proofs.lemmas.Int.{ints}
use Rattle.lop_model.specs.Order.{IsOrder}
use Rattle.lop_model.proofs.InsertLemmas.{IsOrder-after_insertion}
use Rattle.lop_climb.specs.Insertion.{no_move, IsBestInsertion}
use Rattle.lop_climb.proofs.ClimbLemmas.{IsBestMove-positive, IsClimb-more, HasNoGain-none, HasNoGain-more}
use Rattle.lop_climb.proofs.ascent.pass.Goals as goal
use Rattle.lop_climb.proofs.ascent.pass.Goals.{then-best-gt0+else-made-most, else-best-gt0}

pub loop-place-init : goal.loop-place-init
loop-place-init c = record {
  order = subst (λ n. IsOrder n c.args.order.now) (c.n.ensures.size ∙ c.requires.same_n) c.n.ensures.order;
  moves = no_move;
  below = c.requires.most;
  none = λ _. HasNoGain-none c.args.weights.now c.args.order.now;
}

pub returns-then-made-most-clause-moves : goal.returns-then-made-most-clause-moves
returns-then-made-most-clause-moves c =
    let w = c.args.weights.now in
    let s = c.loop-place.order in
    let p = c.loop-place.place in
    let t = c.best_insertion-best.result.to in
    let size : length s ≡ w.size = c.loop-place.invariant.order.complete in
    let move = IsBestMove-positive w s p t c.best_insertion-best.result.gain (omega arith) c.best_insertion-best.ensures (omega (arith, ints)) in
    rw c.insert.ensures (IsClimb-more w c.args.order.now s c.loop-place.made p t c.loop-place.invariant.moves move)

pub returns-then-made-most-clause-order : goal.returns-then-made-most-clause-order
returns-then-made-most-clause-order c =
    rw c.insert.ensures (IsOrder-after_insertion c.args.weights.now.size c.loop-place.order c.loop-place.place c.best_insertion-best.result.to c.loop-place.invariant.order (omega arith))

pub loop-place-preserved : goal.loop-place-preserved
loop-place-preserved c =
    let w = c.args.weights.now in
    let s = c.loop-place.order in
    let p = c.loop-place.place in
    let t = c.best_insertion-best.result.to in
    let g = c.best_insertion-best.result.gain in
    let so = c.loop-place.invariant in
    let best = c.best_insertion-best.ensures in
    let size : length s ≡ w.size = so.order.complete in
    let whole : IsBestInsertion w s p 0 w.size t g = subst (λ n. IsBestInsertion w s p 0 n t g) size best in
    elim c.if-best-gt0.branch [
      | then-best-gt0+else-made-most v ↦
          let move = IsBestMove-positive w s p t g (omega arith) best (omega (arith, ints)) in
          rw (v.order-is, v.made-is, v.insert.ensures) (record {
            order = IsOrder-after_insertion w.size s p t so.order (omega arith);
            moves = IsClimb-more w c.args.order.now s c.loop-place.made p t so.moves move;
            below = omega arith;
            none = λ e. absurd (omega arith);
          })
      | else-best-gt0 v ↦
          rw (v.order-is, v.made-is) (record {
            order = so.order;
            moves = so.moves;
            below = so.below;
            none = λ e. HasNoGain-more w s p t g (so.none e) whole (omega (arith, ints));
          })
    ]
