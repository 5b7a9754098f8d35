-- A pivot at row r, with the column that enters the basis, already solved.
use Rattle.std.specs.Prelude.{◌≡◌, ◌⊎◌, ℕ, suc, ◌<◌, ◌≤◌, ◌^◌, ◌==◌, List, false, ℤ, ◌-ℤ◌, unsigned_abs, FitsSigned, if◌then◌else◌}
use Rattle.std.specs.Int.{w64}
use Rattle.lop_basis.specs.declared.answer.Pivot.{Pivot}
use Rattle.lop_basis.specs.declared.answer.Pivot.TheVariants.{Done, TooSmall, Overflow}
use Rattle.lop_basis.specs.Fixed.{product, quotient}
use Rattle.lop_basis.specs.Table.{at, cell}
use Rattle.lop_basis.specs.Basis.{Basis, entry, one_more}

-- the new entry of the pivot row in column j: the old one divided by the column's entry
abbrev pub new_of_pivot_row : List ℤ → ℕ → ℕ → List ℤ → ℕ → ℤ
new_of_pivot_row t n r column j = quotient (cell t n r j) (at column r)

-- the new entry in row i and column j: in another row, the old one less the column's entry times the new one of the pivot row
abbrev pub new_cell : List ℤ → ℕ → ℕ → List ℤ → ℕ → ℕ → ℤ
new_cell t n r column i j =
    if i == r then new_of_pivot_row t n r column j else cell t n i j -ℤ product (at column i) (new_of_pivot_row t n r column j)

-- the new entry of a basis
abbrev pub new_entry : Basis → ℕ → List ℤ → ℕ → ℕ → ℤ
new_entry b = new_cell b.entries b.rows

-- the turn of row i: the pivot row comes first, then the others rising
abbrev pub turn : ℕ → ℕ → ℕ
turn r i = if i == r then 0 else suc i

-- the place (i, j) is computed before the place (k, l)
abbrev pub ComesBefore : ℕ → ℕ → ℕ → ℕ → ℕ → Type 0
ComesBefore r i j k l = (turn r i < turn r k) ⊎ ((i ≡ k) × (j < l))

-- of n rows and columns, (i, j) is the first place whose new number leaves 64 bits
pub record IsFirstToLeave (n r : ℕ) (new : ℕ → ℕ → ℤ) (i j : ℕ) : Type 0 where
  pub row : i < n
  pub column : j < n
  pub leaves : ¬ (FitsSigned w64 (new i j))
  pub before : (k l : ℕ) → k < n → l < n → ComesBefore r k l i j → FitsSigned w64 (new k l)

-- when each answer comes
abbrev pub IsPivotAnswer : Basis → ℕ → List ℤ → Pivot → Type 0
IsPivotAnswer b r column Done =
    (2 ^ 12 ≤ unsigned_abs (at column r)) × ((i j : ℕ) → i < b.rows → j < b.rows → FitsSigned w64 (new_entry b r column i j))
IsPivotAnswer b r column (TooSmall e) = (e ≡ at column r) × (unsigned_abs e < 2 ^ 12)
IsPivotAnswer b r column (Overflow i j) =
    (2 ^ 12 ≤ unsigned_abs (at column r)) × IsFirstToLeave b.rows r (new_entry b r column) i j

-- what stands after it: the new entries, what was there, or nothing that may be used before a reset
abbrev pub StandsAfterPivot : Basis → ℕ → List ℤ → Pivot → Basis → Type 0
StandsAfterPivot old r column Done new =
    (new ≡ record old { entries = new.entries; done = one_more old.done })
    × ((i j : ℕ) → i < old.rows → j < old.rows → entry new i j ≡ new_entry old r column i j)
StandsAfterPivot old r column (TooSmall e) new = new ≡ record old { refused = one_more old.refused }
StandsAfterPivot old r column (Overflow i j) new =
    new ≡ record old { entries = new.entries; usable = false; refused = one_more old.refused }
