-- Ranked objects as places of a row, and their groups.
use Rattle.std.specs.Prelude.{◌≡◌, ◌≢◌, ℕ, ◌<◌, ◌≤◌, List, length, slice_index}

-- some of n objects, none of them twice
pub record IsRanking (n : ℕ) (ranked : List ℕ) : Type 0 where
  pub below : (p : ℕ) → p < length ranked → slice_index ranked p < n
  pub distinct : (p q : ℕ) → p < q → q < length ranked → slice_index ranked p ≢ slice_index ranked q

-- each of them has a group number, which never falls
pub record AreGrouped (ranked groups : List ℕ) : Type 0 where
  pub grouped : length groups ≡ length ranked
  pub rising : (p q : ℕ) → p ≤ q → q < length groups → slice_index groups p ≤ slice_index groups q
