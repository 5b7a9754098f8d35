use Rattle.std.specs.Prelude.{◌≡◌, ℕ, ◌+◌, ◌*◌, ◌/◌, ◌%◌, ◌<◌, Bool, false, List, length, slice_index, ◌==◌, ◌&&◌, ◌||◌}
use Rattle.std.specs.Int.{bit_at}
use Rattle.lop_model.specs.Fixings.{IsClosure}
use Rattle.lop_model.specs.Related.{pairs_of}

-- the words of 64 bits that a row of n bits takes
abbrev pub row_words : ℕ → ℕ
row_words n = (n + 63) / 64

-- word k of row a, where rows of w words lie one after another
abbrev pub word : List ℕ → ℕ → ℕ → ℕ → ℕ
word t w a k = slice_index t (a * w + k)

-- the bit in row a and column b of a table of n rows of n bits
abbrev pub at : List ℕ → ℕ → ℕ → ℕ → Bool
at t n a b = bit_at (word t (row_words n) a (b / 64)) (b % 64) == 1

-- the bit in row a and column b has been set, and no other has changed
pub record SetsBit (old new : List ℕ) (n a b : ℕ) : Type 0 where
  pub same_length : length new ≡ length old
  pub each : (x y : ℕ) → x < n → y < n → at new n x y ≡ (at old n x y || (x == a && y == b))

-- row into has gained what row from has
pub record JoinsRow (old new : List ℕ) (n into from : ℕ) : Type 0 where
  pub same_length : length new ≡ length old
  pub each : (x y : ℕ) → x < n → y < n → at new n x y ≡ (at old n x y || (x == into && at old n from y))

-- each object at a or before it has been related to b and each object after b
pub record Links (old new : List ℕ) (n a b : ℕ) : Type 0 where
  pub same_length : length new ≡ length old
  pub each : (x y : ℕ) → x < n → y < n → at new n x y ≡ (at old n x y || ((x == a || at old n x a) && (y == b || at old n b y)))

-- what the type of fixings keeps of its table
pub record IsClosedTable (n : ℕ) (t : List ℕ) : Type 0 where
  pub square : length t ≡ n * row_words n
  pub closed : IsClosure (pairs_of n (at t n)) (pairs_of n (at t n))
  pub no_cycle : (a : ℕ) → a < n → at t n a a ≡ false
