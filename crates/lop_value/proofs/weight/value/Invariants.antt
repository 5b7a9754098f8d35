use Rattle.std.proofs.Common.{◌≡◌, ◌*◌, ◌+◌, ◌^◌, pos, ◌+ℤ◌, ◌≤ℤ◌, neg_ℤ}
use Rattle.lop_model.specs.Matrix.{placed_entry}
use Rattle.lop_model.specs.Sums.{sum_below, above}
use Rattle.lop_value.proofs.weight.value.Given as goal

abbrev pub invariant-loop-p : goal.invariant-loop-p
invariant-loop-p l = record {
  sum_so_far : l.sum ≡ sum_below l.p (λ p. sum_below l.n (above (placed_entry l.weights l.order) p));
  low : neg_ℤ (pos (l.p * 2 ^ 73)) ≤ℤ l.sum;
  high : l.sum ≤ℤ pos (l.p * 2 ^ 73);
}

abbrev pub invariant-loop-q : goal.invariant-loop-q
invariant-loop-q l = record {
  sum_so_far : l.sum ≡ sum_below l.p (λ p. sum_below l.n (above (placed_entry l.weights l.order) p)) +ℤ sum_below l.q (above (placed_entry l.weights l.order) l.p);
  low : neg_ℤ (pos (l.p * 2 ^ 73 + l.q * 2 ^ 64)) ≤ℤ l.sum;
  high : l.sum ≤ℤ pos (l.p * 2 ^ 73 + l.q * 2 ^ 64);
}
