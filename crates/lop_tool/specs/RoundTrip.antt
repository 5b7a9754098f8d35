-- What a `solve` and then a `check` promise.
use Rattle.std.specs.Prelude.{◌≡◌, ◌⊎◌, ℕ, ◌≤◌, List, Option, Some, IfSome}
use Rattle.lop_tool.specs.Names.{World, Rose, Command, Solve, Check, Format}
use Rattle.lop_tool.specs.declared.status.Status.TheVariants as status
use Rattle.lop_tool.specs.{Status.number, Status.IsDoneNumber, Ended.Ended}

-- one run ended, and then the other, which began where the first left the world
pub record BothEnded (first second : Option Command) (old new : Option World) (before now solved checked : ℕ) : Type 0 where
  pub between : Option World
  pub faults_between : ℕ
  pub first_later : before ≤ faults_between
  pub second_later : faults_between ≤ now
  pub first_ended : Ended first old between before faults_between solved
  pub second_ended : Ended second between new faults_between now checked

-- a `solve` with a certificate, and the `check` of that certificate against the same file
pub data IsRoundTrip (first second : Option Command) : Type 0 where
  round_trip : (format : Format) (file name : List ℕ) (workers nodes : ℕ)
      → first ≡ Some (Solve format file workers nodes (Some name)) → second ≡ Some (Check format file name) → IsRoundTrip first second

-- where no call failed and the first ended with 0 or 6, the second ends with the same, or for want of memory
abbrev pub Agree : Option Command → Option Command → Option World → ℕ → ℕ → ℕ → ℕ → Type 0
Agree first second old before now solved checked =
    IfSome old (λ w. IsRoundTrip first second → ¬ (Rose before now) → IsDoneNumber solved → (checked ≡ solved) ⊎ (checked ≡ number status.Memory))
