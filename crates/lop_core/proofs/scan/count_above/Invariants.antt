use Rattle.std.proofs.Common.{◌≡◌, ◌≤◌, take}
use Rattle.std.specs.Prelude.{int_lt, count_by}
use Rattle.lop_core.specs.Tree.{node_at}
use Rattle.lop_core.proofs.scan.count_above.Given as goal

abbrev pub invariant-loop-out : goal.invariant-loop-out
invariant-loop-out l = record {
  count : l.count ≡ count_by (λ k. int_lt l.best (node_at l.nodes k).bound) (take l.out-index l.outs);
  within : l.count ≤ l.out-index;
}
