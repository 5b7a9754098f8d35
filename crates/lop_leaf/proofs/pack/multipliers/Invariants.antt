use Rattle.std.proofs.Common.{◌≡◌, ◌*◌, ◌^◌, ◌≤◌, take}
use Rattle.std.specs.List.{sum_by}
use Rattle.lop_leaf.proofs.pack.multipliers.Given as goal

abbrev pub invariant-loop-index : goal.invariant-loop-index
invariant-loop-index l = record {
  sum_so_far : l.sum ≡ sum_by (λ t. t.multiplier) (take l.index l.rec.terms);
  few : l.sum ≤ l.index * 2 ^ 63;
}
