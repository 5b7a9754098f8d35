use Rattle.std.proofs.Common.{◌≡◌, ℕ, ap, ◌∙◌, rules, arith, to_z, of_z, FitsSigned}
use Rattle.std.specs.Int.{w64, w128}
use Rattle.std.proofs.lemmas.Int.{ints, to_z-of_z}
use Rattle.lop_model.specs.Sums.{sum_below, above}
use Rattle.lop_model.specs.Matrix.{entry}
use Rattle.lop_model.specs.Bound.{pair_value}
use Rattle.lop_model.proofs.SumLemmas.{sum_below_more}
use Rattle.lop_model.proofs.RowSums.{pair_sum-rows}
use Rattle.lop_leaf.proofs.rows.plain_bound.Goals as goal

pub loop-i-preserved : goal.loop-i-preserved
loop-i-preserved c =
    let n = c.args.weights.now.size in
    let value = pair_value c.args.fixings.now.pairs (entry c.args.weights.now) in
    let rows = λ (a : ℕ). sum_below n (above value a) in
    let fits : FitsSigned w64 c.row_value.result = search rules in
    let fits_wide : FitsSigned w128 c.from-sum.result = search rules in
    let from : c.from-sum.result ≡ c.row_value.result = c.from-sum.ensures ∙ to_z-of_z w64 c.row_value.result fits in
    let read : to_z w128 (of_z w128 c.from-sum.result) ≡ rows c.loop-i.i = to_z-of_z w128 c.from-sum.result fits_wide ∙ from ∙ c.row_value.ensures.value in
    let low = c.row_value.ensures.low in
    let high = c.row_value.ensures.high in
    record {
      same_length = c.load_row.ensures.same_length ∙ c.loop-i.invariant.same_length;
      same_length_back = c.load_row.ensures.same_length_back ∙ c.loop-i.invariant.same_length_back;
      same_length_greater = c.row_value.ensures.same_length ∙ c.loop-i.invariant.same_length_greater;
      sum_so_far = omega (arith, ints, sum_below_more c.loop-i.i rows, read);
      low = omega (arith, ints, read, low, high, c.row_value.ensures.value);
      high = omega (arith, ints, read, low, high, c.row_value.ensures.value);
    }

pub returns-clause-value : goal.returns-clause-value
returns-clause-value c =
    let n = c.args.weights.now.size in
    let value = pair_value c.args.fixings.now.pairs (entry c.args.weights.now) in
    let all : c.loop-i.i ≡ n = omega (arith, c.loop-i-test.false, c.loop-i.auto.i-end, c.n-i-end.ensures.size) in
    c.loop-i.invariant.sum_so_far ∙ ap (λ k. sum_below k (λ i. sum_below n (above value i))) all ∙ pair_sum-rows n value
