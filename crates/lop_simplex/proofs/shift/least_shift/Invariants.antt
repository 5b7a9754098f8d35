use Rattle.std.proofs.Common.{ℕ, ◌<◌, ◌≤◌, ◌-◌}
use Rattle.lop_simplex.specs.Shift.{AreSmallAt}
use Rattle.lop_simplex.proofs.shift.least_shift.Given as goal

abbrev pub invariant-loop-shift : goal.invariant-loop-shift
invariant-loop-shift l = (l.shift ≤ 40) × ((k : ℕ) → k < l.shift → ¬ (AreSmallAt l.weights k))

abbrev pub decreases-loop-shift : goal.decreases-loop-shift
decreases-loop-shift l = 41 - l.shift
