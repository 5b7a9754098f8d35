use Rattle.std.specs.Prelude.{◌≡◌, ℕ, nat_lt, Bool, List, ◌++◌, length, take}
use Rattle.lop_cuts.specs.declared.kind.CutKind.{CutKind}
use Rattle.lop_cuts.specs.CutList.{BoundedCuts}

-- of the cuts that were found, the first that there is leave for were appended; and whether there are more
pub record IsAppended (limit : ℕ) (found : List CutKind) (old new : BoundedCuts) (answer : Bool) : Type 0 where
  pub list : new ≡ record { cuts = old.cuts ++ take limit found; room = old.room }
  pub more : answer ≡ nat_lt limit (length found)
