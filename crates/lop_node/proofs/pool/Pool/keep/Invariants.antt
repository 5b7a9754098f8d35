use Rattle.std.proofs.Common.{◌≡◌}
use Rattle.lop_node.proofs.pool.Pool.keep.Given as goal

abbrev pub invariant-loop-index : goal.invariant-loop-index
invariant-loop-index l = l.self ≡ l.fn.self
