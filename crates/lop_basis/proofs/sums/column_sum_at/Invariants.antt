use Rattle.std.proofs.Common.{◌≡◌, ◌*◌, ◌^◌, pos, neg_ℤ, ◌≤ℤ◌}
use Rattle.lop_basis.specs.Fixed.{product}
use Rattle.lop_basis.specs.Table.{at, cell}
use Rattle.lop_basis.specs.Solve.{sum_below}
use Rattle.lop_basis.proofs.sums.column_sum_at.Given as goal

abbrev pub invariant-loop-j : goal.invariant-loop-j
invariant-loop-j l = record {
  sum_so_far : l.sum ≡ sum_below l.j (λ j. product (cell l.cells l.n l.i j) (at l.column j));
  low : neg_ℤ (pos (2 ^ 94 * l.j)) ≤ℤ l.sum;
  high : l.sum ≤ℤ pos (2 ^ 94 * l.j);
}
