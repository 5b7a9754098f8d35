use Rattle.std.proofs.Common.{◌≡◌, ◌*◌, ◌+◌, ◌^◌, pos, ◌+ℤ◌, ◌≤ℤ◌, neg_ℤ}
use Rattle.lop_model.specs.Sums.{sum_below, pair_sum}
use Rattle.lop_model.specs.Bound.{pair_value}
use Rattle.lop_check.specs.Charges.{table_entry}
use Rattle.lop_check.proofs.upper.pair_values.Given as goal

abbrev pub invariant-loop-j : goal.invariant-loop-j
invariant-loop-j l = record {
  sum_so_far : l.sum ≡ pair_sum l.j (pair_value l.trail.fixed (table_entry l.weights l.scale l.charges));
  low : neg_ℤ (pos (l.j * 2 ^ 89)) ≤ℤ l.sum;
  high : l.sum ≤ℤ pos (l.j * 2 ^ 89);
}

abbrev pub invariant-loop-i : goal.invariant-loop-i
invariant-loop-i l = record {
  sum_so_far : l.sum ≡ pair_sum l.j (pair_value l.trail.fixed (table_entry l.weights l.scale l.charges)) +ℤ sum_below l.i (λ i. pair_value l.trail.fixed (table_entry l.weights l.scale l.charges) i l.j);
  low : neg_ℤ (pos (l.j * 2 ^ 89 + l.i * 2 ^ 80)) ≤ℤ l.sum;
  high : l.sum ≤ℤ pos (l.j * 2 ^ 89 + l.i * 2 ^ 80);
}
