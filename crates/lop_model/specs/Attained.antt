use Rattle.std.specs.Prelude.{◌≡◌, List, ℕ, ℤ}
use Rattle.lop_model.specs.Order.{IsOrder}
use Rattle.lop_model.specs.Matrix.{Matrix, weight}

-- some order has that weight
pub record IsAttained (C : Matrix) (value : ℤ) : Type 0 where
  pub order : List ℕ
  pub is_order : IsOrder C.size order
  pub weighs : weight C order ≡ value
