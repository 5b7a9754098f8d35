-- Tables of charges, and reduced entries by them.
use Rattle.std.specs.Prelude.{◌≡◌, ◌≤◌, ◌<◌, ◌+◌, ◌*◌, ◌^◌, ℕ, List, length, ℤ, pos, ◌-ℤ◌, ◌*ℤ◌}
use Rattle.lop_model.specs.declared.weights.TheConstants.{MAX_OBJECTS}
use Rattle.lop_model.specs.declared.pair.Pair.{Pair}
use Rattle.lop_model.specs.Matrix.{Matrix, entry}
use Rattle.lop_model.specs.Cells.{cell}
use Rattle.lop_cuts.specs.Charges.{arc_count}

-- a table of n objects, with no charge above 2^100
pub record IsTable (n : ℕ) (t : List ℕ) : Type 0 where
  pub within_limit : n ≤ MAX_OBJECTS
  pub square : length t ≡ n * n
  pub bounded : (a b : ℕ) → a < n → b < n → cell t n a b ≤ 2 ^ 100

-- each arc is charged the multiplier once more
pub record AddsCharges (n : ℕ) (old new : List ℕ) (multiplier : ℕ) (arcs : List Pair) : Type 0 where
  pub same_length : length new ≡ length old
  pub each : (a b : ℕ) → a < n → b < n → cell new n a b ≡ cell old n a b + multiplier * arc_count a b arcs

-- no charge is above 2^75
pub record AreSmall (n : ℕ) (t : List ℕ) : Type 0 where
  pub square : length t ≡ n * n
  pub each : (a b : ℕ) → a < n → b < n → cell t n a b ≤ 2 ^ 75

-- the scale times the entry, less the charge in the table
abbrev pub table_entry : Matrix → ℕ → List ℕ → ℕ → ℕ → ℤ
table_entry C scale charges a b = pos scale *ℤ entry C a b -ℤ pos (cell charges C.size a b)
