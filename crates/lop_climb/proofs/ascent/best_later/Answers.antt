use Rattle.std.proofs.Common.{◌≡◌, ◌∙◌, ◌+◌, ◌<◌, ap, subst, get_or, arith}
use Rattle.std.proofs.lemmas.Int.{ints}
use Rattle.lop_model.specs.Order.{IsOrder}
use Rattle.lop_model.specs.Matrix.{margin, weight}
use Rattle.lop_model.proofs.InsertLemmas.{after_insertion-same, weight-later, gain_within}
use Rattle.lop_climb.proofs.ClimbLemmas.{IsBestInsertion-own, IsBestInsertion-keeps_later, IsBestInsertion-takes_later}
use Rattle.lop_climb.proofs.ascent.best_later.Goals as goal
use Rattle.lop_climb.proofs.ascent.best_later.Goals.{then-gain-best, else-gain-best}

pub loop-k-init : goal.loop-k-init
loop-k-init c =
    let w = c.args.weights.now in
    let s = c.args.order.now in
    let f = c.args.from in
    let same = ap (weight w) (after_insertion-same s f c.requires.from) in
    record {
      gained = omega (arith, ints, same);
      low = omega (arith, ints);
      high = omega (arith, ints);
      best = IsBestInsertion-own w s f same;
    }

pub loop-k-preserved : goal.loop-k-preserved
loop-k-preserved c =
    let w = c.args.weights.now in
    let s = c.args.order.now in
    let f = c.args.from in
    let k = c.loop-k.k in
    let so = c.loop-k.invariant in
    let below : f < w.size = omega (arith, c.requires.same_n, c.requires.from) in
    let order : IsOrder w.size s = subst (λ n. IsOrder n s) (c.n.ensures.size ∙ c.requires.same_n) c.n.ensures.order in
    let within = gain_within w s f (k + 1) c.n-2.ensures.weights order below in
    let step = weight-later w s f k (omega arith) (omega arith) in
    let read : c.margin-gain.result ≡ margin w (get_or s (k + 1) 0) (get_or s f 0) = cc (c.margin-gain.ensures.value, c.at.ensures.value, c.at-moved.ensures.value) in
    record {
      gained = omega (arith, ints, step, read, so.gained);
      low = omega (arith, ints, step, read, within, so.gained);
      high = omega (arith, ints, step, read, within, so.gained);
      best = elim c.if-gain-best.branch [
        | then-gain-best v ↦ rw v.best-is (IsBestInsertion-takes_later w s f f (k + 1) c.loop-k.best.to c.loop-k.best.gain so.best _ (omega (arith, ints, step, read, so.gained)) (omega (arith, ints)))
        | else-gain-best v ↦ rw v.best-is (IsBestInsertion-keeps_later w s f f (k + 1) c.loop-k.best.to c.loop-k.best.gain so.best (omega (arith, ints, step, read, so.gained)))
      ];
    }
