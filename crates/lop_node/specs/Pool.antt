use Rattle.std.specs.Prelude.{ℕ, ◌≤◌, All}
use Rattle.lop_cuts.specs.Kind.{FitsCut}
use Rattle.lop_cuts.specs.CutList.{BoundedCuts}

-- the ladders fit the objects, and there is room for all that may be kept
pub record IsPool (size : ℕ) (ladders : BoundedCuts) (arcs stretches : ℕ) : Type 0 where
  pub fit : All (FitsCut size) ladders.cuts
  pub arc_room : 262144 ≤ arcs
  pub stretch_room : 8000 ≤ stretches
