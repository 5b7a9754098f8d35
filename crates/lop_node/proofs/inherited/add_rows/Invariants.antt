use Rattle.std.proofs.Common.{◌≡◌}
use Rattle.lop_node.proofs.inherited.add_rows.Given as goal

abbrev pub invariant-loop-index : goal.invariant-loop-index
invariant-loop-index l = l.ascent.size ≡ l.fn.ascent.size
