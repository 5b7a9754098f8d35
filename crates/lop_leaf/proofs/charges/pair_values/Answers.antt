use Rattle.std.proofs.Common.{◌≡◌, ap, ◌∙◌, arith}
use Rattle.std.proofs.lemmas.Int.{ints}
use Rattle.lop_model.specs.Sums.{sum_below, above}
use Rattle.lop_model.specs.Bound.{pair_value}
use Rattle.lop_model.proofs.SumLemmas.{sum_below_more}
use Rattle.lop_cuts.specs.Lagrangian.{reduced_entry}
use Rattle.lop_model.proofs.RowSums.{above_is, row_start, pair_sum-rows}
use Rattle.lop_leaf.proofs.charges.pair_values.Goals as goal

pub loop-j-init : goal.loop-j-init
loop-j-init c =
    let value = pair_value c.args.fixings.now.pairs (reduced_entry c.args.weights.now c.args.rec.now.scale c.args.rec.now.terms) in
    record {
      sum_so_far = omega (arith, ints, row_start value c.loop-i.i);
      low = omega (arith, ints);
      high = omega (arith, ints);
    }

pub loop-j-preserved : goal.loop-j-preserved
loop-j-preserved c =
    let value = pair_value c.args.fixings.now.pairs (reduced_entry c.args.weights.now c.args.rec.now.scale c.args.rec.now.terms) in
    record {
      sum_so_far = omega (arith, ints, sum_below_more c.loop-j.j (above value c.loop-i.i), above_is value c.loop-i.i c.loop-j.j (omega arith));
      low = omega (arith, ints);
      high = omega (arith, ints);
    }

pub loop-i-preserved : goal.loop-i-preserved
loop-i-preserved c =
    let value = pair_value c.args.fixings.now.pairs (reduced_entry c.args.weights.now c.args.rec.now.scale c.args.rec.now.terms) in
    let all : c.loop-j.j ≡ c.args.weights.now.size = omega arith in
    record {
      sum_so_far = omega (arith, ints, sum_below_more c.loop-i.i (λ i. sum_below c.args.weights.now.size (above value i)), ap (λ n. sum_below n (above value c.loop-i.i)) all);
      low = omega (arith, ints);
      high = omega (arith, ints);
    }

pub returns-clause-sum : goal.returns-clause-sum
returns-clause-sum c =
    let n = c.args.weights.now.size in
    let value = pair_value c.args.fixings.now.pairs (reduced_entry c.args.weights.now c.args.rec.now.scale c.args.rec.now.terms) in
    let all : c.loop-i.i ≡ n = omega arith in
    c.loop-i.invariant.sum_so_far ∙ ap (λ k. sum_below k (λ i. sum_below n (above value i))) all ∙ pair_sum-rows n value
