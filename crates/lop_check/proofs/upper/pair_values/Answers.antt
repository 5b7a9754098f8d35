use Rattle.std.proofs.Common.{◌≡◌, ap, arith}
use Rattle.std.proofs.lemmas.Int.{ints}
use Rattle.lop_model.specs.Sums.{sum_below}
use Rattle.lop_model.proofs.SumLemmas.{sum_below_more, pair_sum_more}
use Rattle.lop_model.specs.Bound.{pair_value}
use Rattle.lop_check.specs.Charges.{table_entry}
use Rattle.lop_check.proofs.upper.pair_values.Goals as goal

pub loop-i-preserved : goal.loop-i-preserved
loop-i-preserved c =
    let value = pair_value c.args.trail.now.fixed (table_entry c.args.weights.now c.args.scale c.args.charges.now) in
    record {
      sum_so_far = omega (arith, ints, sum_below_more c.loop-i.i (λ i. value i c.loop-j.j));
      low = omega (arith, ints);
      high = omega (arith, ints);
    }

pub loop-j-preserved : goal.loop-j-preserved
loop-j-preserved c =
    let value = pair_value c.args.trail.now.fixed (table_entry c.args.weights.now c.args.scale c.args.charges.now) in
    let all : c.loop-i.i ≡ c.loop-j.j = omega arith in
    record {
      sum_so_far = omega (arith, ints, pair_sum_more c.loop-j.j value, ap (λ n. sum_below n (λ i. value i c.loop-j.j)) all);
      low = omega (arith, ints);
      high = omega (arith, ints);
    }
