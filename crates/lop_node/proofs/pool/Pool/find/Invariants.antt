use Rattle.std.proofs.Common.{◌≡◌}
use Rattle.std.specs.Prelude.{All}
use Rattle.lop_cuts.specs.Kind.{FitsCut}
use Rattle.lop_node.proofs.pool.Pool.find.Given as goal

abbrev pub invariant-loop-index : goal.invariant-loop-index
invariant-loop-index l = record {
  room : l.list.room ≡ l.fn.list.room;
  fit : All (FitsCut l.self) l.list.cuts;
}
