use Rattle.std.proofs.Common.{ℕ, Bool, false, true}
use Rattle.std.specs.Prelude.{IsTrue}

-- no test that fails is true
pub not_true : IsTrue false → ⊥
not_true h = cc
