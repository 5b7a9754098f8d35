use Rattle.std.specs.Prelude.{◌≡◌, ◌≢◌, ℕ, ◌≤◌, List, length, All, AllPairs, ℤ, pos, ◌≤ℤ◌}
use Rattle.lop_basis.specs.declared.room.TheConstants.{MAX_ROWS}
use Rattle.lop_cuts.specs.declared.kind.CutKind.{CutKind}
use Rattle.lop_cuts.specs.Kind.{FitsCut}
use Rattle.lop_cuts.specs.Point.{PointValues}

-- a linear program, as contracts see it: n, the shift of the objective, the cuts that are its rows, their multipliers in units of 2^-32, a point, and the counts of its basis
pub record Lp : Type 0 where
  pub size : ℕ
  pub shift : ℕ
  pub rows : List CutKind
  pub duals : List ℤ
  pub point : PointValues
  pub done : ℕ
  pub refused : ℕ

-- at most 1,024 rows, all different cuts of objects below n
pub record AreRows (n : ℕ) (rows : List CutKind) : Type 0 where
  pub at_most : length rows ≤ MAX_ROWS
  pub distinct : AllPairs (λ x y. x ≢ y) rows
  pub fit : All (FitsCut n) rows

-- a multiplier for each row, none negative
pub record AreMultipliers (rows : List CutKind) (duals : List ℤ) : Type 0 where
  pub one_per_row : length duals ≡ length rows
  pub not_negative : All (λ y. pos 0 ≤ℤ y) duals

-- what is true of each linear program
pub record IsLp (p : Lp) : Type 0 where
  pub rows : AreRows p.size p.rows
  pub duals : AreMultipliers p.rows p.duals
  pub point : p.point.size ≡ p.size
  pub shift : p.shift ≤ 40
