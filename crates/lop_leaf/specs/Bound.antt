use Rattle.std.specs.Prelude.{ℕ, List, IsTrue, ℤ, pos, ◌+ℤ◌, ◌*ℤ◌, ◌≤ℤ◌, ◌<ℤ◌}
use Rattle.lop_model.specs.declared.pair.Pair.{Pair}
use Rattle.lop_model.specs.Matrix.{Matrix}
use Rattle.lop_model.specs.Fixings.{has_pair}
use Rattle.lop_cuts.specs.Lagrangian.{lagrangian_value}
use Rattle.lop_cuts.specs.Certifying.{CertifiesUnder as TermsCertify}
use Rattle.lop_leaf.specs.Record.{ScaledTerms}

-- each pair of F is one of G
pub record AreAmong (F G : List Pair) : Type 0 where
  pub each : (a b : ℕ) → IsTrue (has_pair F a b) → IsTrue (has_pair G a b)

-- the Lagrangian value of a record under closed pairs
abbrev pub record_value : Matrix → List Pair → ScaledTerms → ℤ
record_value C G r = lagrangian_value C G r.scale r.terms

-- q is u divided by the scale, rounded down
pub record IsQuotient (u : ℤ) (scale : ℕ) (q : ℤ) : Type 0 where
  pub within : (pos scale *ℤ q) ≤ℤ u
  pub next : u <ℤ (pos scale *ℤ (q +ℤ pos 1))

-- a record certifies b under a path
abbrev pub CertifiesUnder : Matrix → List Pair → ScaledTerms → ℤ → Type 0
CertifiesUnder C path r b = TermsCertify C path r.scale r.terms b
