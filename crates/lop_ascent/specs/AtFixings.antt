-- A point at which fixed pairs have their values.
use Rattle.std.specs.Prelude.{◌≡◌, ℕ, ◌<◌, ◌^◌, List, IsTrue}
use Rattle.lop_model.specs.declared.pair.Pair.{Pair}
use Rattle.lop_model.specs.Fixings.{has_pair}
use Rattle.lop_cuts.specs.Point.{PointValues, value_at, AreOtherObjects}

-- each fixed arc has the value 1
pub record HasFixings (F : List Pair) (p : PointValues) : Type 0 where
  pub each : (a b : ℕ) → a < p.size → b < p.size → IsTrue (has_pair F a b) → value_at p a b ≡ 2 ^ 32

-- the arcs between a and b have the value 1 where they are fixed
pub record IsPairAt (F : List Pair) (p : PointValues) (a b : ℕ) : Type 0 where
  pub forth : IsTrue (has_pair F a b) → value_at p a b ≡ 2 ^ 32
  pub back : IsTrue (has_pair F b a) → value_at p b a ≡ 2 ^ 32

-- the point q is p but for the arcs between i and j, which have the value 1 where they are fixed
pub record IsPairWritten (F : List Pair) (i j : ℕ) (p q : PointValues) : Type 0 where
  pub size : q.size ≡ p.size
  pub here : IsPairAt F q i j
  pub others : (x y : ℕ) → x < p.size → y < p.size → AreOtherObjects i j x y → value_at q x y ≡ value_at p x y
