-- The second word stands for a score.
use Rattle.std.proofs.Common.{ℕ, ◌≤◌, max, ℤ, ◌≤ℤ◌, arith}
use Rattle.std.specs.Int.{int_max}
use Rattle.std.proofs.lemmas.Int.{ints, clamps}
use Rattle.lop_turn.specs.Rule.{mark_of}

-- a score is at most itself
pub le_same : (a : ℤ) → a ≤ℤ a
le_same a = omega (arith, ints)

-- at most, twice
pub le_trans_ℤ : (a b c : ℤ) → a ≤ℤ b → b ≤ℤ c → a ≤ℤ c
le_trans_ℤ a b c p q = omega (arith, ints)

-- a greater word stands for a greater mark
pub mark-mono : (m n : ℕ) → m ≤ n → mark_of m ≤ℤ mark_of n
mark-mono m n h = omega (arith, ints)

-- the greater of two words stands for no more than what bounds both marks
pub mark-max : (m n : ℕ) (s : ℤ) → mark_of m ≤ℤ s → mark_of n ≤ℤ s → mark_of (max m n) ≤ℤ s
mark-max m n s p q = omega (arith, ints)

-- the greater of two scores is at most what bounds both
pub max-below : (a b c : ℤ) → a ≤ℤ c → b ≤ℤ c → int_max a b ≤ℤ c
max-below a b c p q = omega (arith, ints, clamps)
