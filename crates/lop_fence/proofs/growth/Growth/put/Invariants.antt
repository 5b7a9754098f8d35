use Rattle.std.proofs.Common.{◌≡◌, ◌+◌}
use Rattle.lop_fence.proofs.growth.Growth.put.Given as goal

abbrev pub invariant-loop-x : goal.invariant-loop-x
invariant-loop-x l = l.self.posts ≡ l.fn.self.posts + 1
