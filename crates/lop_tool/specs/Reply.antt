-- The steps of the commands, and what a right reply to one is.
use Rattle.std.specs.Prelude.{◌≡◌, Bool, List, ℕ, Option, None, Some, IfSome}
use Rattle.lop_tool.specs.Names.{NamedFile, Command, Solve, Check, Value, Gen, Status, Refusal, Rejection}
use Rattle.lop_tool.specs.declared.status.Status.TheVariants as status
use Rattle.lop_tool.specs.{Status.done_status, Refusal.refusal_line, Refusal.words_line, Rejection.rejection_line}
use Rattle.lop_tool.specs.{Steps.Steps, Solve.solve_steps, Check.check_steps, Value.value_steps, Gen.gen_steps}

-- the steps of each command, and with them its promise: the one line for a command
abbrev pub steps_of : Command → Steps
steps_of (Solve format file workers nodes cert) = solve_steps format file nodes cert
steps_of (Check format file cert) = check_steps format file cert
steps_of (Value format file order_file) = value_steps format file order_file
steps_of (Gen seed n) = gen_steps seed n

-- the files that a command names for reading
abbrev pub reads : Command → List (List ℕ)
reads command = (steps_of command).reads

-- the first input of a command that is refused, in the order of its steps
abbrev pub IsFirstRefusal : Command → Option (List NamedFile) → Refusal → Type 0
IsFirstRefusal command = (steps_of command).refuses

-- the certificate that a command checks is rejected for this
abbrev pub IsRejection : Command → Option (List NamedFile) → Rejection → Type 0
IsRejection command = (steps_of command).rejects

-- of the told files, no input is refused and no certificate rejected
pub record IsAccepted (command : Command) (files : List NamedFile) : Type 0 where
  pub unrefused : (refusal : Refusal) → ¬ (IsFirstRefusal command (Some files) refusal)
  pub unrejected : (rejection : Rejection) → ¬ (IsRejection command (Some files) rejection)

-- a command was done: with value and bound the same or not, with this text, and with this file left, if there is one
abbrev pub IsDone : Option (List NamedFile) → Command → Bool → List ℕ → Option NamedFile → Type 0
IsDone told command = (steps_of command).does told

-- a right reply: its status, its text, and the file that is left, if there is one
pub data IsReply (told : Option (List NamedFile)) : Option Command → Status → List ℕ → Option NamedFile → Type 0 where
  done : {command : Command} {text : List ℕ} {left : Option NamedFile} (optimal : Bool)
      → IfSome told (IsAccepted command) → IsDone told command optimal text left → IsReply told (Some command) (done_status optimal) text left
  rejected : {command : Command} {text : List ℕ} (rejection : Rejection) → IsRejection command told rejection → text ≡ rejection_line rejection → IsReply told (Some command) status.Rejected text None
  refused_input : {command : Command} {text : List ℕ} (refusal : Refusal) → IsFirstRefusal command told refusal → text ≡ refusal_line refusal → IsReply told (Some command) status.Refused text None
  refused_words : {text : List ℕ} → text ≡ words_line → IsReply told None status.NoCommand text None

-- whatever file of this kind is left, the reply is right
abbrev pub IsRight : Option (List NamedFile) → Option Command → Status → List ℕ → (Option NamedFile → Type 0) → Type 0
IsRight told command status text leaves = (left : Option NamedFile) → leaves left → IsReply told command status text left
