use Rattle.std.specs.Prelude.{◌≡◌, ℕ, List}
use Rattle.lop_cuts.specs.Lagrangian.{Term}
use Rattle.lop_leaf.specs.Record.{ScaledTerms, FitTerms}

-- what the rounds leave, as contracts see it: for how many objects, a record and an order
pub record RoundsView : Type 0 where
  pub size : ℕ
  pub shown : ScaledTerms
  pub order : List ℕ

-- all rooms are for as many objects, and the cuts of the record fit them
pub record IsRounds (size ascent point found choice pool rings sums next climb : ℕ) (terms : List Term) (best : ℕ) : Type 0 where
  pub same_ascent : ascent ≡ size
  pub same_point : point ≡ size
  pub same_room : found ≡ choice
  pub same_pool : pool ≡ size
  pub same_rings : rings ≡ size
  pub same_sums : sums ≡ size
  pub same_next : next ≡ size
  pub same_climb : climb ≡ size
  pub fit : FitTerms size terms
  pub same_best : best ≡ size
