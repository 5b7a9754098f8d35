use Rattle.std.proofs.Common.{ℕ, ◌<◌, ◌/◌, ◌^◌}
use Rattle.std.specs.Prelude.{unsigned_abs}
use Rattle.lop_model.specs.Matrix.{margin}
use Rattle.lop_simplex.proofs.shift.are_small_at.Given as goal

abbrev pub invariant-loop-b : goal.invariant-loop-b
invariant-loop-b l = (x y : ℕ) → x < y → y < l.b → unsigned_abs (margin l.weights x y) / 2 ^ l.shift < 2 ^ 24

abbrev pub invariant-loop-a : goal.invariant-loop-a
invariant-loop-a l =
    ((x y : ℕ) → x < y → y < l.b → unsigned_abs (margin l.weights x y) / 2 ^ l.shift < 2 ^ 24)
    × ((x : ℕ) → x < l.a → unsigned_abs (margin l.weights x l.b) / 2 ^ l.shift < 2 ^ 24)
