use Rattle.std.proofs.Common.{◌<◌}
use Rattle.lop_fence.proofs.work.Work.best.Given as goal

abbrev pub invariant-loop-u : goal.invariant-loop-u
invariant-loop-u l = record { first : l.best.u < l.point.size; second : l.best.w < l.point.size }
