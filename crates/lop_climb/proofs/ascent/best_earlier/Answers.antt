use Rattle.std.proofs.Common.{◌≡◌, ◌∙◌, ◌+◌, ◌-◌, ◌<◌, ap, subst, get_or, arith}
use Rattle.std.proofs.lemmas.Int.{ints}
use Rattle.lop_model.specs.Order.{IsOrder}
use Rattle.lop_model.specs.Matrix.{margin, weight}
use Rattle.lop_model.proofs.InsertLemmas.{after_insertion-same, weight-earlier, gain_within}
use Rattle.lop_climb.proofs.ClimbLemmas.{IsBestInsertion-own, IsBestInsertion-keeps_earlier, IsBestInsertion-takes_earlier}
use Rattle.lop_climb.proofs.ascent.best_earlier.Goals as goal

pub loop-k-init : goal.loop-k-init
loop-k-init c =
    let w = c.args.weights.now in
    let s = c.args.order.now in
    let f = c.args.from in
    let same = ap (weight w) (after_insertion-same s f c.requires.from) in
    record {
      gained = omega (arith, ints, same);
      low = omega (arith, ints);
      high = omega (arith, ints);
      best = IsBestInsertion-own w s f same;
    }

pub loop-k-preserved-then-gain-best : goal.loop-k-preserved-then-gain-best
loop-k-preserved-then-gain-best c =
    let w = c.args.weights.now in
    let s = c.args.order.now in
    let f = c.args.from in
    let k = c.loop-k.k - 1 in
    let so = c.loop-k.invariant in
    let below : f < w.size = omega (arith, c.requires.same_n, c.requires.from) in
    let order : IsOrder w.size s = subst (λ n. IsOrder n s) (c.n.ensures.size ∙ c.requires.same_n) c.n.ensures.order in
    let within = gain_within w s f k c.n-2.ensures.weights order below in
    let next : k + 1 ≡ c.loop-k.k = omega arith in
    let step = rw next at (weight-earlier w s f k (omega arith) c.requires.from) in
    let read : c.margin-gain.result ≡ margin w (get_or s f 0) (get_or s k 0) = cc (c.margin-gain.ensures.value, c.at.ensures.value, c.at-moved.ensures.value) in
    record {
      gained = omega (arith, ints, step, read, so.gained);
      low = omega (arith, ints, step, read, within, so.gained);
      high = omega (arith, ints, step, read, within, so.gained);
      best = IsBestInsertion-takes_earlier w s f c.loop-k.k (f + 1) c.loop-k.best.to c.loop-k.best.gain so.best k _ next (omega (arith, ints, step, read, so.gained)) (omega (arith, ints));
    }

pub loop-k-preserved : goal.loop-k-preserved
loop-k-preserved c =
    let w = c.args.weights.now in
    let s = c.args.order.now in
    let f = c.args.from in
    let k = c.loop-k.k - 1 in
    let so = c.loop-k.invariant in
    let below : f < w.size = omega (arith, c.requires.same_n, c.requires.from) in
    let order : IsOrder w.size s = subst (λ n. IsOrder n s) (c.n.ensures.size ∙ c.requires.same_n) c.n.ensures.order in
    let within = gain_within w s f k c.n-2.ensures.weights order below in
    let next : k + 1 ≡ c.loop-k.k = omega arith in
    let step = rw next at (weight-earlier w s f k (omega arith) c.requires.from) in
    let read : c.margin-gain.result ≡ margin w (get_or s f 0) (get_or s k 0) = cc (c.margin-gain.ensures.value, c.at.ensures.value, c.at-moved.ensures.value) in
    record {
      gained = omega (arith, ints, step, read, so.gained);
      low = omega (arith, ints, step, read, within, so.gained);
      high = omega (arith, ints, step, read, within, so.gained);
      best = IsBestInsertion-keeps_earlier w s f c.loop-k.k (f + 1) c.loop-k.best.to c.loop-k.best.gain so.best k next (omega (arith, ints, step, read, so.gained));
    }
