-- Tables of n rows of n numbers that lie one after another.
use Rattle.std.specs.Prelude.{ℕ, ◌+◌, ◌*◌, List, slice_index}

-- the number in row a and column b
abbrev pub cell : List ℕ → ℕ → ℕ → ℕ → ℕ
cell t n a b = slice_index t (a * n + b)
