-- How a run ends.
use Rattle.std.specs.Prelude.{◌≡◌, ◌⊎◌, ℕ, List, [], take, Option, None, Some, Result, MatchResult}
use Rattle.std.specs.List.{Any}
use Rattle.lop_tool.specs.Names.{World, NamedFile, Rose, IsMissing, Command, Status, Stop}
use Rattle.lop_tool.specs.declared.status.Status.TheVariants as status
use Rattle.lop_tool.specs.declared.stop.Stop.TheVariants as stop
use Rattle.lop_tool.specs.{Status.number, Told.files_of, Told.at_rest, Told.with_file, Told.Leaves, Told.LeavesAll}
use Rattle.lop_tool.specs.{Refusal.refusal_line, Steps.StopsFor, Reply.reads, Reply.IsFirstRefusal, Reply.IsReply}

-- the files that are read
abbrev pub reads_of : Option Command → List (List ℕ)
reads_of None = []
reads_of (Some command) = reads command

-- what a fault comes from: a file that the command names for reading isn't there, or the count of faults rose
abbrev pub Faulted : Option Command → Option World → ℕ → ℕ → Type 0
Faulted command old before now = Any (IsMissing old) (reads_of command) ⊎ Rose before now

-- a right reply was delivered: the number says its status, and its file stands, if it leaves one, and its text was printed
pub record IsReplied (command : Option Command) (old new : Option World) (n : ℕ) : Type 0 where
  pub answer : Status
  pub text : List ℕ
  pub left : Option NamedFile
  pub right : IsReply (files_of old) command answer text left
  pub number_is : n ≡ number answer
  pub leaves : Leaves text left old new

-- the file of a right reply stands, if it leaves one, and the front of its text was printed
pub record IsCutOff (command : Option Command) (old new : Option World) : Type 0 where
  pub answer : Status
  pub text : List ℕ
  pub left : Option NamedFile
  pub right : IsReply (files_of old) command answer text left
  pub count : ℕ
  pub leaves : Leaves (take count text) left old new

-- what stands after a fault
abbrev pub LeavesAtMost : Option Command → Option World → Option World → Type 0
LeavesAtMost command old new = LeavesAll old new ⊎ IsCutOff command old new

-- how a run ended: with a reply, by a fault before it or in its text, or for want of memory
pub data Ended (command : Option Command) (old new : Option World) (before now n : ℕ) : Type 0 where
  replied : IsReplied command old new n → Ended command old new before now n
  faulted : n ≡ number status.Fault → Faulted command old before now → LeavesAtMost command old new → Ended command old new before now n
  lacked : n ≡ number status.Memory → LeavesAll old new → Ended command old new before now n

-- The steps of a run.

-- why a command has no reply
abbrev pub StopCause : Command → Option World → ℕ → ℕ → Stop → Type 0
StopCause command old before now = StopsFor (IsFirstRefusal command (files_of old)) (Faulted (Some command) old before now)

-- Ok leaves such a file; after an Err the files are as before
abbrev pub LeavesFile : {E : Type 0} → (Option NamedFile → Type 0) → Option World → Option World → Result (Unit {0}) E → Type 0
LeavesFile leaves old new result = MatchResult result (λ _. (left : Option NamedFile) × leaves left × (at_rest new ≡ with_file left (at_rest old))) (λ _. LeavesAll old new)

-- how a reply was delivered: whole, cut off by a fault, or not at all for a fault
pub data Delivered (leaves : Option NamedFile → Type 0) (text : List ℕ) (answer : Status) (old new : Option World) (before now : ℕ) (ends : Status) : Type 0 where
  whole : (left : Option NamedFile) → leaves left → ends ≡ answer → Leaves text left old new → Delivered leaves text answer old new before now ends
  part : (left : Option NamedFile) (n : ℕ) → leaves left → ends ≡ status.Fault → Rose before now → Leaves (take n text) left old new → Delivered leaves text answer old new before now ends
  fault : ends ≡ status.Fault → Rose before now → LeavesAll old new → Delivered leaves text answer old new before now ends

-- a reply that leaves no file
abbrev pub NoFile : Option NamedFile → Type 0
NoFile left = left ≡ None

-- how a stop was delivered: a refusal is printed
abbrev pub Stopped : Stop → Option World → Option World → ℕ → ℕ → Status → Type 0
Stopped (stop.Refused refusal) old new before now ends = Delivered NoFile (refusal_line refusal) status.Refused old new before now ends
Stopped stop.Fault old new before now ends = (ends ≡ status.Fault) × (new ≡ old)
Stopped stop.Memory old new before now ends = (ends ≡ status.Memory) × (new ≡ old)
