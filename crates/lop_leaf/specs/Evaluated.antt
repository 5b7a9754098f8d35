use Rattle.std.specs.Prelude.{ℕ, List, Option, ℤ}
use Rattle.lop_model.specs.declared.pair.Pair.{Pair}
use Rattle.lop_leaf.specs.Record.{ScaledTerms}

-- what a judge found at a node, as contracts see it: the node's number, a bound, the pair to branch on, the record that shows the bound, and an order with its weight
pub record EvaluatedFields : Type 0 where
  pub node : ℕ
  pub bound : ℤ
  pub pair : Option Pair
  pub shown : ScaledTerms
  pub order : List ℕ
  pub value : ℤ
