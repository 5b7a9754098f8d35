use Rattle.std.proofs.Common.{◌≡◌, ◌*◌, ◌^◌, pos, neg_ℤ, ◌≤ℤ◌}
use Rattle.lop_basis.specs.Fixed.{product}
use Rattle.lop_basis.specs.Table.{at, cell}
use Rattle.lop_basis.specs.Solve.{sum_below}
use Rattle.lop_basis.proofs.sums.row_sum_at.Given as goal

abbrev pub invariant-loop-i : goal.invariant-loop-i
invariant-loop-i l = record {
  sum_so_far : l.sum ≡ sum_below l.i (λ i. product (at l.costs i) (cell l.cells l.n i l.j));
  low : neg_ℤ (pos (2 ^ 94 * l.i)) ≤ℤ l.sum;
  high : l.sum ≤ℤ pos (2 ^ 94 * l.i);
}
