-- The path to a node of the tree, and the pairs that it fixes, in a table of depths: for each ordered pair of n
-- objects, row by row, how many pairs the path had when a chain first led from the one object to the other, and 0 where
-- none does.
use Rattle.std.specs.Prelude.{◌≡◌, ◌↔◌, ℕ, ◌-◌, ◌*◌, ◌/◌, ◌<◌, ◌≤◌, Bool, not, nat_lt, nat_le, ◌==◌, ◌&&◌, ◌||◌, List, length, take, IsTrue, if◌then◌else◌}
use Rattle.lop_model.specs.declared.pair.Pair.{Pair}
use Rattle.lop_model.specs.Cells.{cell}
use Rattle.lop_model.specs.Fixings.{LeadsTo, IsBranchingPath}

-- a number of objects, a path, and the pairs that it fixes
pub record FixedPath : Type 0 where
  pub size : ℕ
  pub path : List Pair
  pub fixed : List Pair

-- the table fixes a before b
abbrev pub is_fixed : List ℕ → ℕ → ℕ → ℕ → Bool
is_fixed t n a b = nat_lt 0 (cell t n a b)

-- a depth is one of 1 to k
abbrev pub is_within : ℕ → ℕ → Bool
is_within k depth = nat_lt 0 depth && nat_le depth k

-- the path is one of branching decisions, with room for one pair of each two objects; the first k of its pairs lead
-- from a to b where the depth of a and b is one of 1 to k
pub record IsTrail (n : ℕ) (path : List Pair) (capacity : ℕ) (t : List ℕ) : Type 0 where
  pub branching : IsBranchingPath n path
  pub fits : n * (n - 1) / 2 ≤ capacity
  pub square : length t ≡ n * n
  pub most : (a b : ℕ) → a < n → b < n → cell t n a b ≤ length path
  pub each : (k a b : ℕ) → k ≤ length path → a < n → b < n → IsTrue (is_within k (cell t n a b)) ↔ LeadsTo (take k path) a b

-- y is b or is fixed after it, and x isn't fixed before y yet
abbrev pub is_new : List ℕ → ℕ → ℕ → ℕ → ℕ → Bool
is_new t n b x y = not (is_fixed t n x y) && (y == b || is_fixed t n b y)

-- x is a or is fixed before it
abbrev pub is_from : List ℕ → ℕ → ℕ → ℕ → Bool
is_from t n a x = x == a || is_fixed t n x a

-- row x has the depth at each object that is new there
pub record NotesRow (old new : List ℕ) (n x b depth : ℕ) : Type 0 where
  pub same_length : length new ≡ length old
  pub each : (v y : ℕ) → v < n → y < n → cell new n v y ≡ (if v == x && is_new old n b v y then depth else cell old n v y)

-- each row from which a is reached has the depth at each object that is new there
pub record Notes (old new : List ℕ) (n a b depth : ℕ) : Type 0 where
  pub same_length : length new ≡ length old
  pub each : (v y : ℕ) → v < n → y < n → cell new n v y ≡ (if is_from old n a v && is_new old n b v y then depth else cell old n v y)

-- the depth is gone from row x
pub record TakesRow (old new : List ℕ) (n x depth : ℕ) : Type 0 where
  pub same_length : length new ≡ length old
  pub each : (v y : ℕ) → v < n → y < n → cell new n v y ≡ (if v == x && cell old n v y == depth then 0 else cell old n v y)

-- the depth is gone from each row from which a is reached
pub record Takes (old new : List ℕ) (n a depth : ℕ) : Type 0 where
  pub same_length : length new ≡ length old
  pub each : (v y : ℕ) → v < n → y < n → cell new n v y ≡ (if is_from old n a v && cell old n v y == depth then 0 else cell old n v y)
