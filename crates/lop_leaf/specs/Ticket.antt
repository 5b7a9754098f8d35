use Rattle.std.specs.Prelude.{ℕ, ◌-◌, ◌*◌, ◌/◌, ◌≤◌, List, ℤ}
use Rattle.lop_model.specs.declared.pair.Pair.{Pair}
use Rattle.lop_leaf.specs.Record.{ScaledTerms}

-- a node that is handed out, as contracts see it: of how many objects its path may speak, its number and bound, the greatest weight known, and its path and record
pub record TicketFields : Type 0 where
  pub size : ℕ
  pub node : ℕ
  pub bound : ℤ
  pub best : ℤ
  pub path : List Pair
  pub inherited : ScaledTerms

-- how many unordered pairs n objects have
abbrev pub pair_count : ℕ → ℕ
pair_count n = n * (n - 1) / 2

-- there is room for one pair of each two objects, and the path has no more
pub record IsPathRoom (n len room : ℕ) : Type 0 where
  pub whole : pair_count n ≤ room
  pub within : len ≤ pair_count n
