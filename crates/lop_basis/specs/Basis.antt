use Rattle.std.specs.Prelude.{◌≡◌, ℕ, ◌+◌, ◌-◌, ◌*◌, ◌≤◌, ◌^◌, min, Bool, List, length, ℤ}
use Rattle.lop_basis.specs.declared.room.TheConstants.{MAX_ROWS}
use Rattle.lop_basis.specs.Table.{cell}

-- a basis room, as contracts see it: for how many rows it was made, how many it has, its entries row by row, whether no
-- pivot has overflowed since the last reset, and how many calls were done and refused
pub record Basis : Type 0 where
  pub room : ℕ
  pub rows : ℕ
  pub entries : List ℤ
  pub usable : Bool
  pub done : ℕ
  pub refused : ℕ

-- the entry in row i and column j
abbrev pub entry : Basis → ℕ → ℕ → ℤ
entry b i j = cell b.entries b.rows i j

-- one more, and 2^64 - 1 at most
abbrev pub one_more : ℕ → ℕ
one_more count = min (count + 1) (2 ^ 64 - 1)

-- at least one row and as many as the room has, an entry for each row and column
pub record IsShaped (b : Basis) : Type 0 where
  pub positive : 1 ≤ b.rows
  pub within : b.rows ≤ b.room
  pub limit : b.room ≤ MAX_ROWS
  pub square : length b.entries ≡ b.rows * b.rows
