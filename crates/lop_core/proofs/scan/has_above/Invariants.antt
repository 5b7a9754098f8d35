use Rattle.std.proofs.Common.{◌≡◌, take, false}
use Rattle.std.specs.Prelude.{int_lt}
use Rattle.std.specs.List.{list_any}
use Rattle.lop_core.specs.Tree.{node_at}
use Rattle.lop_core.proofs.scan.has_above.Given as goal

abbrev pub invariant-loop-out : goal.invariant-loop-out
invariant-loop-out l = list_any (λ k. int_lt l.best (node_at l.nodes k).bound) (take l.out-index l.outs) ≡ false
