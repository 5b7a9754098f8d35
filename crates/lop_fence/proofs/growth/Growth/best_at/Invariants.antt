use Rattle.std.proofs.Common.{◌<◌}
use Rattle.lop_fence.proofs.growth.Growth.best_at.Given as goal

abbrev pub invariant-loop-w : goal.invariant-loop-w
invariant-loop-w l = record { first : l.best.u < l.point.size; second : l.best.w < l.point.size }
