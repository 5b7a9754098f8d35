use Rattle.std.proofs.Common.{◌≡◌, ◌+◌}
use Rattle.lop_fence.proofs.growth.Growth.place.Given as goal

abbrev pub invariant-loop-i : goal.invariant-loop-i
invariant-loop-i l = l.self.posts ≡ l.fn.self.posts + 1
