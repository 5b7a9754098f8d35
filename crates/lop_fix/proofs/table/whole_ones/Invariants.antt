use Rattle.std.proofs.Common.{◌≡◌, ◌*◌, ◌≤◌}
use Rattle.lop_model.specs.Sums.{count_below}
use Rattle.lop_fix.specs.Table.{at}
use Rattle.lop_fix.proofs.table.whole_ones.Given as goal

abbrev pub invariant-loop-k : goal.invariant-loop-k
invariant-loop-k l = record {
  counted : l.count ≡ count_below (l.k * 64) (at l.words l.n l.a);
  few : l.count ≤ l.k * 64;
}
