use Rattle.std.proofs.Common.{◌≡◌, fold, take}
use Rattle.std.specs.Int.{int_max}
use Rattle.lop_core.specs.Tree.{node_at}
use Rattle.lop_core.proofs.scan.greatest_bound.Given as goal

abbrev pub invariant-loop-out : goal.invariant-loop-out
invariant-loop-out l = l.top ≡ fold (λ t k. int_max t (node_at l.nodes k).bound) l.from (take l.out-index l.outs)
