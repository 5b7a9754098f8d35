use Rattle.std.proofs.Common.{arith, to_z, length, ◌≡◌, ap, ◌∙◌}
use Rattle.std.specs.Int.{w128}
use Rattle.std.proofs.lemmas.Int.{ints}
use Rattle.lop_model.specs.Sums.{sum_below, pair_sum}
use Rattle.lop_model.specs.Order.{IsOrder}
use Rattle.lop_model.specs.Matrix.{placed_entry, weight}
use Rattle.lop_model.proofs.SumLemmas.{sum_below_more, pair_sum_more}
use Rattle.lop_model.proofs.MatrixLemmas.{weight_within}
use Rattle.lop_certtext.specs.CutLine.{objects_of}
use Rattle.lop_check.proofs.Objects.{IsOrder-objects_of, objects_whole}
use Rattle.lop_check.proofs.numbers.sum_in_order.Goals as goal

pub loop-p-preserved : goal.loop-p-preserved
loop-p-preserved c =
    let placed = placed_entry c.args.weights.now (objects_of c.args.numbers.now) in
    let read : c.at.result ≡ placed c.loop-p.p c.loop-q.q = cc (c.at.ensures, c.object_at-row.ensures.object, c.object_at-column.ensures.object) in
    record {
      sum_so_far = omega (arith, ints, sum_below_more c.loop-p.p (λ p. placed p c.loop-q.q));
      low = omega (arith, ints);
      high = omega (arith, ints);
    }

pub loop-q-preserved : goal.loop-q-preserved
loop-q-preserved c =
    let placed = placed_entry c.args.weights.now (objects_of c.args.numbers.now) in
    let all : c.loop-p.p ≡ c.loop-q.q = omega arith in
    record {
      sum_so_far = omega (arith, ints, pair_sum_more c.loop-q.q placed, ap (λ n. sum_below n (λ p. placed p c.loop-q.q)) all);
      low = omega (arith, ints);
      high = omega (arith, ints);
    }

pub returns : goal.returns
returns c =
    let w = c.args.weights.now in
    let s = objects_of c.args.numbers.now in
    let size : length s ≡ w.size = objects_whole w.size c.args.numbers.now c.requires in
    let all : c.loop-q.q ≡ length s = omega arith in
    let whole : to_z w128 c.loop-q.sum-bits ≡ weight w s = c.loop-q.invariant.sum_so_far ∙ ap (λ n. pair_sum n (placed_entry w s)) all in
    let order : IsOrder w.size s = IsOrder-objects_of w.size c.args.numbers.now c.requires in
    record {
      value = whole;
      low = omega (arith, ints, weight_within w s order, c.n-n.ensures.weights.bounded_sum);
      high = omega (arith, ints, weight_within w s order, c.n-n.ensures.weights.bounded_sum);
    }
