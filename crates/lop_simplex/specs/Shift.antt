-- The shift that makes the objective small.
use Rattle.std.specs.Prelude.{ℕ, ◌<◌, ◌/◌, ◌^◌, unsigned_abs}
use Rattle.lop_model.specs.Matrix.{Matrix, margin}

-- all margins, shifted right, are below 2^24 in absolute value
abbrev pub AreSmallAt : Matrix → ℕ → Type 0
AreSmallAt C shift = (a b : ℕ) → a < b → b < C.size → unsigned_abs (margin C a b) / 2 ^ shift < 2 ^ 24

-- the shift is the least one at which they are
pub record IsLeastShift (C : Matrix) (shift : ℕ) : Type 0 where
  pub small : AreSmallAt C shift
  pub least : (k : ℕ) → k < shift → ¬ (AreSmallAt C k)
