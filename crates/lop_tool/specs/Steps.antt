-- The steps of a command: what it reads, what is refused first, what is rejected, and what it does.
use Rattle.std.specs.Prelude.{Bool, List, ℕ, Option, None, Some, Result, Ok, Err, ◌≡◌, ◌⊎◌, ⊤}
use Rattle.lop_tool.specs.Names.{NamedFile, World, Refusal, Rejection, Rose, IsMissing, Stop}
use Rattle.lop_tool.specs.declared.stop.Stop.TheVariants as stop

-- the first refusal, where a file that was read in this way comes first: its own, or that of what follows where it is
-- accepted; there is none where the file isn't there
abbrev pub RefusesFirst : {X E : Type 0} → Option (Result X E) → (E → Refusal) → (X → Refusal → Type 0) → Refusal → Type 0
RefusesFirst None own next refusal = ⊥
RefusesFirst (Some (Err e)) own next refusal = refusal ≡ own e
RefusesFirst (Some (Ok x)) own next refusal = next x refusal

-- no step follows
abbrev pub NoMore : {X : Type 0} → X → Refusal → Type 0
NoMore x refusal = ⊥

-- why a step has no answer: for such a refusal, or by a fault that comes from this; memory may always be wanting
abbrev pub StopsFor : (Refusal → Type 0) → Type 0 → Stop → Type 0
StopsFor refused fault (stop.Refused refusal) = refused refusal
StopsFor refused fault stop.Fault = fault
StopsFor refused fault stop.Memory = ⊤

-- nothing is refused
abbrev pub NoRefusal : Refusal → Type 0
NoRefusal refusal = ⊥

-- why a file wasn't read: it isn't there, or the count of faults rose
abbrev pub FileCause : List ℕ → Option World → ℕ → ℕ → Stop → Type 0
FileCause file old before now = StopsFor NoRefusal (IsMissing old file ⊎ Rose before now)

-- why a file wasn't begun
abbrev pub BeginCause : ℕ → ℕ → Stop → Type 0
BeginCause before now = StopsFor NoRefusal (Rose before now)

-- the steps of a command
pub record Steps : Type 1 where
  -- the files that it names for reading
  pub reads : List (List ℕ)
  -- the first of its inputs that is refused, in the order of its steps
  pub refuses : Option (List NamedFile) → Refusal → Type 0
  -- the certificate that it checks is rejected for this
  pub rejects : Option (List NamedFile) → Rejection → Type 0
  -- it was done: with value and bound the same or not, with this text, and with this file left, if there is one
  pub does : Option (List NamedFile) → Bool → List ℕ → Option NamedFile → Type 0
