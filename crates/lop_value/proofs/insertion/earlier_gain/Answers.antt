use Rattle.std.proofs.Common.{◌≡◌, ◌∙◌, ◌+◌, ◌-◌, ◌<◌, ap, subst, get_or, arith}
use Rattle.std.proofs.lemmas.Int.{ints}
use Rattle.lop_model.specs.Order.{IsOrder, after_insertion}
use Rattle.lop_model.specs.Matrix.{margin, weight}
use Rattle.lop_model.proofs.InsertLemmas.{after_insertion-same, weight-earlier, gain_within}
use Rattle.lop_value.proofs.insertion.earlier_gain.Goals as goal

pub loop-k-init : goal.loop-k-init
loop-k-init c = record {
  reached = c.requires.earlier;
  gained = omega (arith, ints, ap (weight c.args.weights.now) (after_insertion-same c.args.order.now c.args.from c.requires.within));
  low = omega (arith, ints);
  high = omega (arith, ints);
}

pub loop-k-preserved : goal.loop-k-preserved
loop-k-preserved c =
    let w = c.args.weights.now in
    let s = c.args.order.now in
    let f = c.args.from in
    let k = c.loop-k.k - 1 in
    let below : f < w.size = omega (arith, c.requires.same_n, c.requires.within) in
    let order : IsOrder w.size s = subst (λ n. IsOrder n s) (c.n.ensures.size ∙ c.requires.same_n) c.n.ensures.order in
    let within = gain_within w s f k c.n-2.ensures.weights order below in
    let next : k + 1 ≡ c.loop-k.k = omega arith in
    let step = rw next at (weight-earlier w s f k (omega arith) c.requires.within) in
    let read : c.margin-gain.result ≡ margin w (get_or s f 0) (get_or s k 0) = cc (c.margin-gain.ensures.value, c.at.ensures.value, c.at-moved.ensures.value) in
    record {
      reached = omega arith;
      gained = omega (arith, ints, step, read, c.loop-k.invariant.gained);
      low = omega (arith, ints, step, read, within, c.loop-k.invariant.gained);
      high = omega (arith, ints, step, read, within, c.loop-k.invariant.gained);
    }

pub returns : goal.returns
returns c =
    let last : c.loop-k.k ≡ c.args.to = omega arith in
    omega (arith, ints, c.loop-k.invariant.gained, ap (λ k. weight c.args.weights.now (after_insertion c.args.order.now c.args.from k)) last)
