use Rattle.std.proofs.Common.{arith, to_z, subst, length, ◌≡◌, ap, ◌∙◌}
use Rattle.std.specs.Int.{w128}
use Rattle.std.proofs.lemmas.Int.{ints}
use Rattle.lop_model.specs.Sums.{sum_below, above, pair_sum}
use Rattle.lop_model.specs.Order.{IsOrder}
use Rattle.lop_model.specs.Matrix.{placed_entry, weight}
use Rattle.lop_model.proofs.SumLemmas.{sum_below_more}
use Rattle.lop_model.proofs.MatrixLemmas.{weight_within}
use Rattle.lop_model.proofs.RowSums.{above_is, row_start, pair_sum-rows}
use Rattle.lop_value.proofs.weight.value.Goals as goal

pub loop-q-init : goal.loop-q-init
loop-q-init c =
    let placed = placed_entry c.args.weights.now c.args.order.now in
    record {
      sum_so_far = omega (arith, ints, row_start placed c.loop-p.p);
      low = omega (arith, ints);
      high = omega (arith, ints);
    }

pub loop-q-preserved : goal.loop-q-preserved
loop-q-preserved c =
    let placed = placed_entry c.args.weights.now c.args.order.now in
    let read : c.at-in-loop-q.result ≡ placed c.loop-p.p c.loop-q.q = cc (c.at-in-loop-q.ensures, c.at.ensures.value, c.at-first.ensures.value) in
    record {
      sum_so_far = omega (arith, ints, sum_below_more c.loop-q.q (above placed c.loop-p.p), above_is placed c.loop-p.p c.loop-q.q (omega arith));
      low = omega (arith, ints);
      high = omega (arith, ints);
    }

pub loop-p-preserved : goal.loop-p-preserved
loop-p-preserved c =
    let placed = placed_entry c.args.weights.now c.args.order.now in
    let all : c.loop-q.q ≡ c.n-n.result = omega arith in
    record {
      sum_so_far = omega (arith, ints, sum_below_more c.loop-p.p (λ p. sum_below c.n-n.result (above placed p)), ap (λ n. sum_below n (above placed c.loop-p.p)) all);
      low = omega (arith, ints);
      high = omega (arith, ints);
    }

pub returns : goal.returns
returns c =
    let w = c.args.weights.now in
    let s = c.args.order.now in
    let n = c.n-n.result in
    let all : c.loop-p.p ≡ n = omega arith in
    let same : length s ≡ w.size = c.requires in
    let rows : to_z w128 c.loop-p.sum-bits ≡ sum_below n (λ p. sum_below n (above (placed_entry w s) p)) = c.loop-p.invariant.sum_so_far ∙ ap (λ k. sum_below k (λ p. sum_below n (above (placed_entry w s) p))) all in
    let whole : to_z w128 c.loop-p.sum-bits ≡ weight w s = rows ∙ pair_sum-rows n (placed_entry w s) ∙ ap (λ k. pair_sum k (placed_entry w s)) c.n-n.ensures.size in
    let order : IsOrder w.size s = subst (λ n. IsOrder n s) (c.n-n.ensures.size ∙ same) c.n-n.ensures.order in
    record {
      value = whole;
      low = omega (arith, ints, weight_within w s order, c.n.ensures.weights.bounded_sum);
      high = omega (arith, ints, weight_within w s order, c.n.ensures.weights.bounded_sum);
    }
