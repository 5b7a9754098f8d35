use Rattle.std.proofs.Common.{◌≡◌, ◌*◌, ◌^◌, pos, ◌+ℤ◌, ◌≤ℤ◌, ◌≤◌, neg_ℤ}
use Rattle.lop_model.specs.Order.{after_insertion}
use Rattle.lop_model.specs.Matrix.{weight}
use Rattle.lop_value.proofs.insertion.earlier_gain.Given as goal

abbrev pub invariant-loop-k : goal.invariant-loop-k
invariant-loop-k l = record {
  reached : l.to ≤ l.k;
  gained : weight l.weights (after_insertion l.order l.from l.k) ≡ weight l.weights l.order +ℤ l.gain;
  low : neg_ℤ (pos (2 * 10 ^ 18)) ≤ℤ l.gain;
  high : l.gain ≤ℤ pos (2 * 10 ^ 18);
}
