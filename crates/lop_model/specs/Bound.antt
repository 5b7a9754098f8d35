-- The pair bound under fixings: the Lagrangian bound at scale 1 without a cut.
use Rattle.std.specs.Prelude.{ℕ, List, ℤ, if◌then◌else◌}
use Rattle.std.specs.Int.{int_max}
use Rattle.lop_model.specs.declared.pair.Pair.{Pair}
use Rattle.lop_model.specs.Sums.{pair_sum}
use Rattle.lop_model.specs.Matrix.{Matrix, entry}
use Rattle.lop_model.specs.Fixings.{has_pair}

-- what two objects give: r of the way in which the closed pairs fix them, or the greater of both ways
abbrev pub pair_value : List Pair → (ℕ → ℕ → ℤ) → ℕ → ℕ → ℤ
pair_value G r i j = if has_pair G i j then r i j else (if has_pair G j i then r j i else int_max (r i j) (r j i))

-- what all pairs of objects give, each by its entries
abbrev pub pair_bound : Matrix → List Pair → ℤ
pair_bound C G = pair_sum C.size (pair_value G (entry C))
