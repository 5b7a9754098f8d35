use Rattle.std.specs.Prelude.{ℕ, ◌<◌, List, IsTrue}
use Rattle.lop_model.specs.declared.pair.Pair.{Pair}
use Rattle.lop_model.specs.Fixings.{has_pair, LeadsTo, IsClosure, IsUndecided, IsDecided}

-- a number of objects, and the pairs of them that are fixed
pub record FixedPairs : Type 0 where
  pub size : ℕ
  pub pairs : List Pair

-- the fixed pairs are a strict partial order of the objects: they are closed under chains, and no chain comes back
pub record IsPartialOrder (f : FixedPairs) : Type 0 where
  pub closed : IsClosure f.pairs f.pairs
  pub below : (a b : ℕ) → IsTrue (has_pair f.pairs a b) → (a < f.size) × (b < f.size)
  pub no_cycle : (a : ℕ) → ¬ (LeadsTo f.pairs a a)

-- the least undecided pair (a, b) with a < b, by a and then b
pub record IsFirstUndecided (n : ℕ) (F : List Pair) (a b : ℕ) : Type 0 where
  pub rising : a < b
  pub undecided : IsUndecided n F a b
  pub rows_before : (c d : ℕ) → c < a → c < d → d < n → IsDecided F c d
  pub row_before : (d : ℕ) → a < d → d < b → IsDecided F a d
