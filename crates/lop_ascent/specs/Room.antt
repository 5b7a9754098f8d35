-- What the type of an ascent keeps of its tables.
use Rattle.std.specs.Prelude.{◌≡◌, ℕ, ◌*◌, ◌≤◌, List, length, All, ℤ}
use Rattle.lop_cuts.specs.declared.kind.CutKind.{CutKind}
use Rattle.lop_ascent.specs.declared.place.Place.{Place}
use Rattle.lop_ascent.specs.declared.span.Span.{Span}
use Rattle.lop_ascent.specs.Duals.{AreDuals}
use Rattle.lop_ascent.specs.Places.{HasCells, IsPlaceIn, IsSpanIn}
use Rattle.lop_ascent.specs.Rows.{IsRowList}
use Rattle.lop_model.specs.declared.weights.TheConstants.{MAX_OBJECTS}
use Rattle.lop_ascent.specs.declared.room.TheConstants.{MAX_ROWS}

-- tables over the pairs of the objects, of which so many are in use, and rows of entries
pub record IsRoom (size pairs cells reduced ahead : ℕ) (entries : List Place) (spans : List Span) (cuts : List CutKind) (rows : ℕ) (hints : List ℤ) : Type 0 where
  pub within_limit : size ≤ MAX_OBJECTS
  pub enough : HasCells size cells
  pub pairs_fit : pairs ≤ cells
  pub all_reduced : reduced ≡ cells
  pub all_ahead : ahead ≡ cells
  pub places : All (IsPlaceIn cells) entries
  pub spans_end : All (IsSpanIn (length entries)) spans
  pub few_entries : length entries ≤ 64 * rows
  pub same_spans : length spans ≡ rows
  pub list : IsRowList size cuts
  pub same : rows ≡ length cuts
  pub all_hints : length hints ≡ MAX_ROWS
  pub duals : AreDuals hints

-- the capacities of the lists of cuts, rows, spans and entries, and of the other spans and entries, are enough for the most
-- rows
pub record HasRoom (c r s e t p : ℕ) : Type 0 where
  pub cuts : MAX_ROWS ≤ c
  pub rows : MAX_ROWS ≤ r
  pub spans : MAX_ROWS ≤ s
  pub entries : 262144 ≤ e
  pub spare_spans : MAX_ROWS ≤ t
  pub spare : 262144 ≤ p
