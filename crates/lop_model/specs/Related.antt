-- The pairs that a relation of objects relates, as a list.
use Rattle.std.specs.Prelude.{ℕ, Bool, List, map}
use Rattle.std.specs.List.{range_with_len, filter, flat_map}
use Rattle.lop_model.specs.declared.pair.Pair.{Pair}

-- the pair of two objects
abbrev pub pair : ℕ → ℕ → Pair
pair a b = record { before = a; after = b }

-- the pairs of objects below n that are related, in rising order
abbrev pub pairs_of : ℕ → (ℕ → ℕ → Bool) → List Pair
pairs_of n related = flat_map (λ a. map (pair a) (filter (related a) (range_with_len 0 n))) (range_with_len 0 n)
