use Rattle.std.specs.Prelude.{◌≡◌, ℕ, ◌+◌, ◌*◌, ◌<◌, ◌≤◌, List, [], length, take, drop, map, slice_index, slice_index_or, ℤ, pos, ◌+ℤ◌, ◌-ℤ◌, ◌≤ℤ◌, unsigned_abs}
use Rattle.std.specs.List.{range_with_len}
use Rattle.lop_model.specs.declared.weights.TheConstants.{MAX_OBJECTS, MAX_ABSOLUTE_SUM}
use Rattle.lop_model.specs.Sums.{pair_sum}
use Rattle.lop_model.specs.Order.{IsOrder}

-- a matrix of weights: n, and n rows of n numbers
pub record Matrix : Type 0 where
  pub size : ℕ
  pub rows : List (List ℤ)

-- n rows, one after another in one list
abbrev pub matrix_of : ℕ → List ℤ → Matrix
matrix_of n es = record { size = n; rows = map (λ i. take n (drop (i * n) es)) (range_with_len 0 n) }

-- the entry in row i and column j
abbrev pub entry : Matrix → ℕ → ℕ → ℤ
entry C i j = slice_index_or (slice_index_or C.rows i []) j (pos 0)

-- the two entries of a pair of objects, added up
abbrev pub pair_total : Matrix → ℕ → ℕ → ℤ
pair_total C i j = entry C i j +ℤ entry C j i

-- what an order gains by a before b in place of b before a
abbrev pub margin : Matrix → ℕ → ℕ → ℤ
margin C a b = entry C a b -ℤ entry C b a

-- the absolute values of the two entries of a pair of objects, added up
abbrev pub pair_absolute : Matrix → ℕ → ℕ → ℤ
pair_absolute C i j = pos (unsigned_abs (entry C i j) + unsigned_abs (entry C j i))

-- the sum of the entries off the diagonal
abbrev pub total : Matrix → ℤ
total C = pair_sum C.size (pair_total C)

-- the sum of their absolute values
abbrev pub absolute_total : Matrix → ℤ
absolute_total C = pair_sum C.size (pair_absolute C)

-- the entry in the row of the object at place p and the column of the object at place q
abbrev pub placed_entry : Matrix → List ℕ → ℕ → ℕ → ℤ
placed_entry C s p q = entry C (slice_index s p) (slice_index s q)

-- the weight of an order: the sum of these over all places p < q
abbrev pub weight : Matrix → List ℕ → ℤ
weight C s = pair_sum (length s) (placed_entry C s)

-- no order weighs more than B
pub record IsUpperBound (C : Matrix) (B : ℤ) : Type 0 where
  pub each : (s : List ℕ) → IsOrder C.size s → weight C s ≤ℤ B

-- n from 1 to 512, n rows of n numbers, and off-diagonal absolute values that sum to at most 10^18
pub record IsWeights (C : Matrix) : Type 0 where
  pub positive : 1 ≤ C.size
  pub within_limit : C.size ≤ MAX_OBJECTS
  pub rows : length C.rows ≡ C.size
  pub columns : (i : ℕ) → i < C.size → length (slice_index_or C.rows i []) ≡ C.size
  pub bounded_sum : absolute_total C ≤ℤ MAX_ABSOLUTE_SUM

-- n is within its limits, and there is an entry for each row and column
pub record IsShaped (n : ℕ) (es : List ℤ) : Type 0 where
  pub positive : 1 ≤ n
  pub within_limit : n ≤ MAX_OBJECTS
  pub square : length es ≡ n * n

-- what the type of weights keeps of n and the entries
pub record AreWeights (n : ℕ) (es : List ℤ) : Type 0 where
  pub shaped : IsShaped n es
  pub bounded_sum : absolute_total (matrix_of n es) ≤ℤ MAX_ABSOLUTE_SUM
