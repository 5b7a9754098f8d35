-- Points: a value between 0 and 2^32, which stands for 1, for each ordered pair of objects, and the cuts that they violate.
use Rattle.std.specs.Prelude.{◌≡◌, ◌≢◌, ◌⊎◌, ℕ, ◌+◌, ◌-◌, ◌*◌, ◌^◌, ◌<◌, ◌≤◌, List, length, slice_index, replicate, sum_by}
use Rattle.lop_model.specs.declared.pair.Pair.{Pair}
use Rattle.lop_model.specs.declared.weights.TheConstants.{MAX_OBJECTS}
use Rattle.lop_cuts.specs.declared.kind.CutKind.{CutKind}
use Rattle.lop_cuts.specs.Kind.{arcs_of, right_side_of}

-- a point, as contracts see it: n, and n rows of n values that stand one after another
pub record PointValues : Type 0 where
  pub size : ℕ
  pub values : List ℕ

-- the value of the arc from a to b
abbrev pub value_at : PointValues → ℕ → ℕ → ℕ
value_at p a b = slice_index p.values (a * p.size + b)

-- one half everywhere
abbrev pub halves : ℕ → PointValues
halves n = record { size = n; values = replicate (n * n) (2 ^ 31) }

-- n from 1 to 512, a value for each row and column, and the values of an arc and of its reverse add up to 1
pub record IsPoint (p : PointValues) : Type 0 where
  pub positive : 1 ≤ p.size
  pub within_limit : p.size ≤ MAX_OBJECTS
  pub square : length p.values ≡ p.size * p.size
  pub reverse : (a b : ℕ) → a < p.size → b < p.size → value_at p a b + value_at p b a ≡ 2 ^ 32

-- the arc from x to y is neither that from a to b nor its reverse
abbrev pub AreOtherObjects : ℕ → ℕ → ℕ → ℕ → Type 0
AreOtherObjects a b x y = ((x ≢ a) ⊎ (y ≢ b)) × ((x ≢ b) ⊎ (y ≢ a))

-- the point q is p but for the arc from a to b, which has this value, and its reverse, which has the rest
pub record IsWithArc (p q : PointValues) (a b to : ℕ) : Type 0 where
  pub size : q.size ≡ p.size
  pub arc : value_at q a b ≡ to
  pub reverse : value_at q b a ≡ 2 ^ 32 - to
  pub others : (x y : ℕ) → x < p.size → y < p.size → AreOtherObjects a b x y → value_at q x y ≡ value_at p x y

-- the values of a list of arcs, added up
abbrev pub arcs_value : PointValues → List Pair → ℕ
arcs_value p arcs = sum_by (λ a. value_at p a.before a.after) arcs

-- the values of the cut's arcs sum to more than its right side
abbrev pub IsViolated : PointValues → CutKind → Type 0
IsViolated p cut = right_side_of cut * 2 ^ 32 < arcs_value p (arcs_of cut)
