-- Square tables: n rows of n numbers that lie one after another.
use Rattle.std.specs.Prelude.{◌≡◌, ℕ, ◌+◌, ◌*◌, ◌<◌, ◌^◌, ◌==◌, List, slice_index_or, ℤ, pos, if◌then◌else◌}

-- the number in row i and column j
abbrev pub cell : List ℤ → ℕ → ℕ → ℕ → ℤ
cell t n i j = slice_index_or t (i * n + j) (pos 0)

-- the number at a place of a list
abbrev pub at : List ℤ → ℕ → ℤ
at xs k = slice_index_or xs k (pos 0)

-- 1 on the diagonal and 0 elsewhere, in units of 2^-32
pub record IsIdentity (n : ℕ) (t : List ℤ) : Type 0 where
  pub each : (i j : ℕ) → i < n → j < n → cell t n i j ≡ (if i == j then pos (2 ^ 32) else pos 0)
