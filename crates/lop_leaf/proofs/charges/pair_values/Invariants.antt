use Rattle.std.proofs.Common.{◌≡◌, ◌*◌, ◌+◌, ◌^◌, pos, ◌+ℤ◌, ◌≤ℤ◌, neg_ℤ}
use Rattle.lop_model.specs.Sums.{sum_below, above}
use Rattle.lop_model.specs.Bound.{pair_value}
use Rattle.lop_cuts.specs.Lagrangian.{reduced_entry}
use Rattle.lop_leaf.proofs.charges.pair_values.Given as goal

abbrev pub invariant-loop-i : goal.invariant-loop-i
invariant-loop-i l = record {
  sum_so_far : l.sum ≡ sum_below l.i (λ i. sum_below l.weights.size (above (pair_value l.fixings.pairs (reduced_entry l.weights l.rec.scale l.rec.terms)) i));
  low : neg_ℤ (pos (l.i * 2 ^ 86)) ≤ℤ l.sum;
  high : l.sum ≤ℤ pos (l.i * 2 ^ 86);
}

abbrev pub invariant-loop-j : goal.invariant-loop-j
invariant-loop-j l = record {
  sum_so_far : l.sum ≡ sum_below l.i (λ i. sum_below l.weights.size (above (pair_value l.fixings.pairs (reduced_entry l.weights l.rec.scale l.rec.terms)) i)) +ℤ sum_below l.j (above (pair_value l.fixings.pairs (reduced_entry l.weights l.rec.scale l.rec.terms)) l.i);
  low : neg_ℤ (pos (l.i * 2 ^ 86 + l.j * 2 ^ 77)) ≤ℤ l.sum;
  high : l.sum ≤ℤ pos (l.i * 2 ^ 86 + l.j * 2 ^ 77);
}
