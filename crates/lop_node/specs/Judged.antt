use Rattle.std.specs.Prelude.{◌≡◌, ℕ, ◌⊎◌, List, Option, ℤ, ◌≤ℤ◌, IfSome, IfNone}
use Rattle.lop_model.specs.declared.pair.Pair.{Pair}
use Rattle.lop_model.specs.Matrix.{Matrix}
use Rattle.lop_model.specs.Fixings.{IsClosure, AreAllDecided}
use Rattle.lop_fix.specs.PartialOrder.{IsFirstUndecided}
use Rattle.lop_leaf.specs.Bound.{record_value, IsQuotient}
use Rattle.lop_leaf.specs.Packing.{packing_bound}
use Rattle.lop_leaf.specs.Ticket.{TicketFields}

-- what a judge shows that packs alone: the bound is at most the packing bound, and the pair is the least undecided one
pub record IsPackJudged (C : Matrix) (path : List Pair) (bound : ℤ) (pair : Option Pair) (value : ℤ) : Type 0 where
  pub packed : (G : List Pair) → IsClosure path G → bound ≤ℤ packing_bound C G
  pub first : (G : List Pair) → IsClosure path G → IfSome pair (λ p. IsFirstUndecided C.size G p.before p.after)
  pub none : (G : List Pair) → IsClosure path G → IfNone pair (AreAllDecided C.size G)

-- q is what the inherited record shows under G, the closure of the ticket's path: its value over its scale, rounded down
abbrev pub IsInheritedBound : Matrix → TicketFields → List Pair → ℤ → Type 0
IsInheritedBound C t G q = IsQuotient (record_value C G t.inherited) t.inherited.scale q

-- the bound is the lesser of the packing bound and the inherited record's: at most both, and one of them
pub record IsLesserBound (C : Matrix) (t : TicketFields) (bound : ℤ) : Type 0 where
  pub packed : (G : List Pair) → IsClosure t.path G → bound ≤ℤ packing_bound C G
  pub inherited : (G : List Pair) (q : ℤ) → IsClosure t.path G → IsInheritedBound C t G q → bound ≤ℤ q
  pub one_of : (G : List Pair) → IsClosure t.path G → (bound ≡ packing_bound C G) ⊎ IsInheritedBound C t G bound

-- the pair is the least one that the path leaves undecided, and none only where all are decided
pub record IsFirstPair (n : ℕ) (path : List Pair) (pair : Option Pair) : Type 0 where
  pub some : IfSome pair (λ p. IsFirstUndecided n path p.before p.after)
  pub none : IfNone pair (AreAllDecided n path)

-- nothing more is shown than that the result is sound
abbrev pub IsJudgedAnyhow : Matrix → List Pair → ℤ → Option Pair → ℤ → Type 0
IsJudgedAnyhow C path bound pair value = Unit {0}
