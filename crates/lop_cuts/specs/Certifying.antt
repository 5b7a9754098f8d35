-- Bounds that are shown under a path of branching decisions.
use Rattle.std.specs.Prelude.{ℕ, List, ℤ}
use Rattle.lop_model.specs.declared.pair.Pair.{Pair}
use Rattle.lop_model.specs.Matrix.{Matrix}
use Rattle.lop_model.specs.Fixings.{IsClosure}
use Rattle.lop_cuts.specs.Lagrangian.{Term, Certifies}

-- the scale and the terms certify b under a path: they do so under the closure of its pairs
pub record CertifiesUnder (C : Matrix) (path : List Pair) (scale : ℕ) (terms : List Term) (b : ℤ) : Type 0 where
  pub each : (G : List Pair) → IsClosure path G → Certifies C G scale terms b
