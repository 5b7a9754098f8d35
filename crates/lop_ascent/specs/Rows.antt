-- The rows of an ascent, and what it answers for them.
use Rattle.std.specs.Prelude.{◌≡◌, ◌≢◌, ℕ, ◌≤◌, List, [], ◌∷◌, ◌++◌, length, All, AllPairs, Contains, ℤ}
use Rattle.lop_cuts.specs.declared.kind.CutKind.{CutKind}
use Rattle.lop_cuts.specs.Kind.{IsCut, FitsCut}
use Rattle.lop_ascent.specs.declared.room.RowReply.{RowReply}
use Rattle.lop_ascent.specs.declared.room.RowReply.TheVariants.{Added, Present, Full}
use Rattle.lop_ascent.specs.declared.room.TheConstants.{MAX_ROWS}

-- an ascent, as contracts see it: of how many objects its cuts may speak, the cuts of its rows, and a multiplier for each
pub record AscentRows : Type 0 where
  pub size : ℕ
  pub cuts : List CutKind
  pub duals : List ℤ

-- no rows yet
abbrev pub no_rows : ℕ → AscentRows
no_rows n = record { size = n; cuts = []; duals = [] }

-- at most 4,096 cuts of objects below n, no two equal
pub record IsRowList (n : ℕ) (cuts : List CutKind) : Type 0 where
  pub few : length cuts ≤ MAX_ROWS
  pub different : AllPairs (λ c d. c ≢ d) cuts
  pub valid : All IsCut cuts
  pub fit : All (FitsCut n) cuts

-- what became of a cut: it was appended, an equal one is there, or there are 4,096 others
abbrev pub IsRowReply : CutKind → List CutKind → List CutKind → RowReply → Type 0
IsRowReply cut old new Added = (All (λ c. c ≢ cut) old) × (new ≡ old ++ cut ∷ [])
IsRowReply cut old new Present = Contains old cut × (new ≡ old)
IsRowReply cut old new Full = All (λ c. c ≢ cut) old × (length old ≡ MAX_ROWS) × (new ≡ old)
