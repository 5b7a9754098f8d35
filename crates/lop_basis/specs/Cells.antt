-- What the two passes of a pivot do to a table: the pivot row is divided, then multiples of it are taken from the other rows.
use Rattle.std.specs.Prelude.{◌≡◌, ◌≢◌, ℕ, ◌<◌, List, length, ℤ, ◌-ℤ◌, FitsSigned}
use Rattle.std.specs.Int.{w64}
use Rattle.lop_basis.specs.Fixed.{product}
use Rattle.lop_basis.specs.Table.{at, cell}

-- what stands in row i and column j less the column's entry times the number in row r
abbrev pub difference : List ℤ → ℕ → ℕ → List ℤ → ℕ → ℕ → ℤ
difference t n r column i j = cell t n i j -ℤ product (at column i) (cell t n r j)

-- row r has the numbers that fit 64 bits and that new gives by columns, and the other rows are as they were
pub record ChangesRow (n r : ℕ) (new : ℕ → ℤ) (t u : List ℤ) : Type 0 where
  pub same_length : length u ≡ length t
  pub fit : (j : ℕ) → j < n → FitsSigned w64 (new j)
  pub row : (j : ℕ) → j < n → cell u n r j ≡ new j
  pub others : (i j : ℕ) → i < n → j < n → i ≢ r → cell u n i j ≡ cell t n i j

-- column j is the first whose number leaves 64 bits
pub record IsFirstInRow (n : ℕ) (new : ℕ → ℤ) (j : ℕ) : Type 0 where
  pub column : j < n
  pub leaves : ¬ (FitsSigned w64 (new j))
  pub before : (k : ℕ) → k < j → FitsSigned w64 (new k)

-- row r is as it was, and the other rows below p have the numbers that fit 64 bits and that new gives
pub record ChangesOthersBelow (n r p : ℕ) (new : ℕ → ℕ → ℤ) (t u : List ℤ) : Type 0 where
  pub same_length : length u ≡ length t
  pub fit : (i j : ℕ) → i < p → j < n → i ≢ r → FitsSigned w64 (new i j)
  pub others : (i j : ℕ) → i < p → j < n → i ≢ r → cell u n i j ≡ new i j
  pub pivot_row : (j : ℕ) → j < n → cell u n r j ≡ cell t n r j

-- outside row r, (i, j) is the first place by rows and columns whose number leaves 64 bits
pub record IsFirstInOthers (n r : ℕ) (new : ℕ → ℕ → ℤ) (i j : ℕ) : Type 0 where
  pub row : i < n
  pub other : i ≢ r
  pub column : j < n
  pub leaves : ¬ (FitsSigned w64 (new i j))
  pub rows_before : (k l : ℕ) → k < i → l < n → k ≢ r → FitsSigned w64 (new k l)
  pub before : (l : ℕ) → l < j → FitsSigned w64 (new i l)

-- all numbers fit 64 bits and are those that new gives
pub record HasAllNew (n : ℕ) (new : ℕ → ℕ → ℤ) (u : List ℤ) : Type 0 where
  pub fit : (i j : ℕ) → i < n → j < n → FitsSigned w64 (new i j)
  pub each : (i j : ℕ) → i < n → j < n → cell u n i j ≡ new i j
