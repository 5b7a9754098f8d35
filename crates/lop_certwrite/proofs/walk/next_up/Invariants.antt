use Rattle.std.proofs.Common.{◌<◌, length, List}
use Rattle.lop_certwrite.specs.CoreTree.{NodeTree}
use Rattle.lop_certwrite.specs.Walk.{IsPending}
use Rattle.lop_certwrite.proofs.walk.next_up.Given as goal

abbrev pub invariant-loop-at : goal.invariant-loop-at
invariant-loop-at l = record {
  inside : l.at < length l.core.state.nodes;
  same : (trees : List NodeTree) → IsPending l.core.state.nodes l.node trees → IsPending l.core.state.nodes l.at trees;
}

abbrev pub decreases-loop-at : goal.decreases-loop-at
decreases-loop-at l = l.at
