-- What the steps of the simplex do to its basis.
use Rattle.std.specs.Prelude.{◌≡◌, ℕ, ◌<◌, ◌≤◌, IsTrue}
use Rattle.lop_basis.specs.Basis.{Basis, one_more}
use Rattle.lop_basis.specs.declared.room.TheConstants.{MAX_ROWS}
use Rattle.lop_simplex.specs.declared.run.Step.{Step}
use Rattle.lop_simplex.specs.declared.run.Step.TheVariants.{Pivoted, Settled, Refused}

-- the basis is usable and has this many rows, at most 1,024
pub record IsReady (rows : ℕ) (b : Basis) : Type 0 where
  pub usable : IsTrue b.usable
  pub size : b.rows ≡ rows
  pub at_most : rows ≤ MAX_ROWS

-- one more pivot is done, and the basis is ready for the next
pub record HasMoved (rows : ℕ) (old new : Basis) : Type 0 where
  pub ready : IsReady rows new
  pub done : new.done ≡ one_more old.done

-- a step makes one pivot, or none, and where it is refused, that is counted
abbrev pub IsStep : ℕ → Basis → Basis → Step → Type 0
IsStep rows old new Pivoted = HasMoved rows old new
IsStep rows old new Settled = new.done ≡ old.done
IsStep rows old new Refused = (new.done ≡ old.done) × (0 < new.refused)
