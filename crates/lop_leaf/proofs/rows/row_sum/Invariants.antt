use Rattle.std.proofs.Common.{◌≡◌}
use Rattle.lop_model.specs.Sums.{sum_below, above}
use Rattle.lop_model.specs.Matrix.{entry}
use Rattle.lop_model.specs.Bound.{pair_value}
use Rattle.lop_leaf.proofs.rows.row_sum.Given as goal

abbrev pub invariant-loop-j : goal.invariant-loop-j
invariant-loop-j l = record {
  sum_so_far : l.sum ≡ sum_below l.j (above (pair_value l.fixings.pairs (entry l.weights)) l.i);
}
