use Rattle.std.proofs.Common.{◌≡◌, ◌<◌, ◌++◌, length, reverse}
use Rattle.lop_core.specs.Tree.{path_of}
use Rattle.lop_core.proofs.path.write_path.Given as goal

abbrev pub invariant-loop-at : goal.invariant-loop-at
invariant-loop-at l = record {
  inside : l.at < length l.nodes;
  so_far : path_of l.nodes l.fn.node ≡ path_of l.nodes l.at ++ reverse l.into.path;
  rest : l.into ≡ record l.fn.into { path = l.into.path };
}

abbrev pub decreases-loop-at : goal.decreases-loop-at
decreases-loop-at l = l.at
