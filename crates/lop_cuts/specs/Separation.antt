-- What a separation appends to a list of cuts.
use Rattle.std.specs.Prelude.{◌≡◌, ◌<◌, ℕ, List, ◌++◌, length, drop, All, Contains}
use Rattle.lop_cuts.specs.declared.kind.CutKind.{CutKind}
use Rattle.lop_cuts.specs.Kind.{IsCut, FitsCut}
use Rattle.lop_cuts.specs.CutList.{BoundedCuts}
use Rattle.lop_cuts.specs.Point.{PointValues, IsViolated}

-- a cut of the point's objects that the point violates
pub record IsViolatedCut (p : PointValues) (c : CutKind) : Type 0 where
  pub cut : IsCut c
  pub fits : FitsCut p.size c
  pub violated : IsViolated p c

-- cuts that the point violates stand behind the old ones, in the same room
pub record GainsViolated (p : PointValues) (old new : BoundedCuts) : Type 0 where
  pub more : List CutKind
  pub list : new ≡ record { cuts = old.cuts ++ more; room = old.room }
  pub each : All (IsViolatedCut p) more

-- a list takes an offered cut: it has fewer cuts than the bound, the point violates the cut, and none of those from `start` on is the same
pub record IsTaken (p : PointValues) (list : BoundedCuts) (start until : ℕ) (c : CutKind) : Type 0 where
  pub fewer : length list.cuts < until
  pub violated : IsViolated p c
  pub other : ¬ Contains (drop start list.cuts) c
