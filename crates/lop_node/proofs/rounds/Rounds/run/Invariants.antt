use Rattle.std.proofs.Common.{◌≡◌}
use Rattle.lop_node.proofs.rounds.Rounds.run.Given as goal

abbrev pub invariant-loop-round : goal.invariant-loop-round
invariant-loop-round l = l.self.size ≡ l.fn.self.size
