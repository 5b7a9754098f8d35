use Rattle.std.specs.Prelude.{◌≡◌, ◌≢◌, ℕ, ◌<◌, ◌≤◌, List, length, take, slice_index, Contains}
use Rattle.lop_model.specs.declared.order.OrderFault.{OrderFault}
use Rattle.lop_model.specs.declared.order.OrderFault.TheVariants.{Length, OutOfRange, Repeated}

-- the numbers at the first p places are below n, and no two of them are equal
pub record IsOrderBefore (n : ℕ) (s : List ℕ) (p : ℕ) : Type 0 where
  pub within : p ≤ length s
  pub below : (k : ℕ) → k < p → slice_index s k < n
  pub distinct : (j k : ℕ) → j < k → k < p → slice_index s j ≢ slice_index s k

-- why a list is no order of n, with the first place that fails
abbrev pub IsFault : ℕ → List ℕ → OrderFault → Type 0
IsFault n s Length = length s ≢ n
IsFault n s (OutOfRange p) =
    (length s ≡ n) × IsOrderBefore n s p × (p < n) × (n ≤ slice_index s p)
IsFault n s (Repeated p) =
    (length s ≡ n) × IsOrderBefore n s p × (p < n) × Contains (take p s) (slice_index s p)
