use Rattle.std.proofs.Common.{◌≡◌, ◌∙◌, ◌+◌, ◌<◌, ap, subst, get_or, arith}
use Rattle.std.proofs.lemmas.Int.{ints}
use Rattle.lop_model.specs.Order.{IsOrder}
use Rattle.lop_model.specs.Matrix.{margin, weight}
use Rattle.lop_model.proofs.InsertLemmas.{after_insertion-same, weight-later, gain_within}
use Rattle.lop_value.proofs.insertion.later_gain.Goals as goal

pub loop-k-init : goal.loop-k-init
loop-k-init c =
    let s = c.args.order.now in
    record {
      gained = omega (arith, ints, ap (weight c.args.weights.now) (after_insertion-same s c.args.from (omega (arith, c.requires.later, c.requires.within))));
      low = omega (arith, ints);
      high = omega (arith, ints);
    }

pub loop-k-preserved : goal.loop-k-preserved
loop-k-preserved c =
    let w = c.args.weights.now in
    let s = c.args.order.now in
    let f = c.args.from in
    let k = c.loop-k.k in
    let below : f < w.size = omega (arith, c.requires.same_n, c.requires.later, c.requires.within) in
    let order : IsOrder w.size s = subst (λ n. IsOrder n s) (c.n.ensures.size ∙ c.requires.same_n) c.n.ensures.order in
    let within = gain_within w s f (k + 1) c.n-2.ensures.weights order below in
    let step = weight-later w s f k c.loop-k.auto.k (omega (arith, c.requires.within)) in
    let read : c.margin-gain.result ≡ margin w (get_or s (k + 1) 0) (get_or s f 0) = cc (c.margin-gain.ensures.value, c.at.ensures.value, c.at-moved.ensures.value) in
    record {
      gained = omega (arith, ints, step, read, c.loop-k.invariant.gained);
      low = omega (arith, ints, step, read, within, c.loop-k.invariant.gained);
      high = omega (arith, ints, step, read, within, c.loop-k.invariant.gained);
    }
