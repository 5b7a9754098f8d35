-- Where the entries of rows lie, and the pairs of the entries.
use Rattle.std.specs.Prelude.{ℕ, ◌+◌, ◌*◌, ◌<◌, ◌≤◌, List, length, All}
use Rattle.lop_ascent.specs.declared.place.Place.{Place}
use Rattle.lop_ascent.specs.declared.span.Span.{Span}

-- so many cells are enough for the pairs of n objects, and there is one
pub record HasCells (n cells : ℕ) : Type 0 where
  pub square : n * n ≤ 2 * cells + n
  pub some : 1 ≤ cells

-- the place is one of a table of that many cells
abbrev pub IsPlaceIn : ℕ → Place → Type 0
IsPlaceIn cells place = place.index < cells

-- the span ends within so many entries
abbrev pub IsSpanIn : ℕ → Span → Type 0
IsSpanIn entries span = span.end ≤ entries

-- the entries into which those of so many spans were copied, and their new spans
pub record AreLaidOut (from into : List Place) (laid : List Span) : Type 0 where
  pub few : length into ≤ 64 * length laid
  pub spans : All (IsSpanIn (length into)) laid
  pub places : (cells : ℕ) → All (IsPlaceIn cells) from → All (IsPlaceIn cells) into
