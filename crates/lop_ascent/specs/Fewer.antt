use Rattle.std.specs.Prelude.{◌≢◌, ◌≤◌, List, length, All, AllPairs, Contains}
use Rattle.lop_cuts.specs.declared.kind.CutKind.{CutKind}

-- each of the cuts was among the others
abbrev pub AreAmongCuts : List CutKind → List CutKind → Type 0
AreAmongCuts some all = All (λ c. Contains all c) some

-- some of the cuts were taken out: what is left was among them, and is of different cuts if they were
pub record AreFewer (old new : List CutKind) : Type 0 where
  pub no_more : length new ≤ length old
  pub among : AreAmongCuts new old
  pub different : AllPairs (λ c d. c ≢ d) old → AllPairs (λ c d. c ≢ d) new
