use Rattle.std.proofs.Common.{◌≡◌, ◌*◌, ◌+◌, ◌^◌, pos, ◌+ℤ◌, ◌≤ℤ◌, neg_ℤ}
use Rattle.lop_model.specs.Matrix.{placed_entry}
use Rattle.lop_model.specs.Sums.{sum_below, pair_sum}
use Rattle.lop_certtext.specs.CutLine.{objects_of}
use Rattle.lop_check.proofs.numbers.sum_in_order.Given as goal

abbrev pub invariant-loop-q : goal.invariant-loop-q
invariant-loop-q l = record {
  sum_so_far : l.sum ≡ pair_sum l.q (placed_entry l.weights (objects_of l.numbers));
  low : neg_ℤ (pos (l.q * 2 ^ 73)) ≤ℤ l.sum;
  high : l.sum ≤ℤ pos (l.q * 2 ^ 73);
}

abbrev pub invariant-loop-p : goal.invariant-loop-p
invariant-loop-p l = record {
  sum_so_far : l.sum ≡ pair_sum l.q (placed_entry l.weights (objects_of l.numbers)) +ℤ sum_below l.p (λ p. placed_entry l.weights (objects_of l.numbers) p l.q);
  low : neg_ℤ (pos (l.q * 2 ^ 73 + l.p * 2 ^ 64)) ≤ℤ l.sum;
  high : l.sum ≤ℤ pos (l.q * 2 ^ 73 + l.p * 2 ^ 64);
}
