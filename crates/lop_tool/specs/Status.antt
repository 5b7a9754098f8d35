-- How a run ends.
use Rattle.std.specs.Prelude.{◌≡◌, ◌⊎◌, ℕ, Bool, true, false}
use Rattle.lop_tool.specs.declared.status.Status.TheVariants as status
use Rattle.lop_tool.specs.declared.status.Status.{Status}

-- the number that the program ends with
abbrev pub number : Status → ℕ
number status.Done = 0
number status.Rejected = 1
number status.NoCommand = 2
number status.Refused = 3
number status.Fault = 4
number status.Memory = 5
number status.Spent = 6

-- a command was done, and value and bound are the same or not
abbrev pub done_status : Bool → Status
done_status true = status.Done
done_status false = status.Spent

-- the command was done
abbrev pub IsDoneNumber : ℕ → Type 0
IsDoneNumber n = (n ≡ number status.Done) ⊎ (n ≡ number status.Spent)
