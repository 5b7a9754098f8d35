-- What is certified under a path.
use Rattle.std.proofs.Common.{ℕ, List, ℤ, subst}
use Rattle.lop_model.specs.declared.pair.Pair.{Pair}
use Rattle.lop_model.specs.Matrix.{Matrix}
use Rattle.lop_model.specs.Fixings.{IsClosure}
use Rattle.lop_cuts.specs.Lagrangian.{Term, Certifies}
use Rattle.lop_cuts.specs.Certifying.{CertifiesUnder}
use Rattle.lop_cuts.proofs.ClosureUnique.{IsClosure-unique}

-- what certifies under one closure of the path does so under the path
pub CertifiesUnder-one : (C : Matrix) (path G : List Pair) (scale : ℕ) (terms : List Term) (b : ℤ) → IsClosure path G → Certifies C G scale terms b → CertifiesUnder C path scale terms b
CertifiesUnder-one C path G scale terms b closure certified = record { each = λ H other. subst (λ (F : List Pair). Certifies C F scale terms b) (IsClosure-unique path G H closure other) certified }
