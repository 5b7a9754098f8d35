use Rattle.std.specs.Prelude.{ℕ, List}
use Rattle.lop_cuts.specs.declared.kind.CutKind.{CutKind}

-- a list of cuts in a room that is made once, as contracts see it: its cuts, and how many there may be
pub record BoundedCuts : Type 0 where
  pub cuts : List CutKind
  pub room : ℕ
