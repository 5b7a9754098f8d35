-- What a run promises.
use Rattle.std.specs.Prelude.{◌≡◌, ◌⊎◌, ℕ, List, Bool, Option, Some, IsSomeAnd}
use Rattle.std.specs.List.{Any}
use Rattle.lop_tool.specs.Names.{World, NamedFile, Rose, IsMissing, Command, Solve, Check, Value, Gen, Format, Status}
use Rattle.lop_tool.specs.Names.{Refusal, Rejection}
use Rattle.lop_tool.specs.declared.status.Status.TheVariants as status
use Rattle.lop_tool.specs.{Status.number, Status.done_status, Status.IsDoneNumber, Told.files_of, Told.Leaves}
use Rattle.lop_tool.specs.{Told.PrintsOnly, Refusal.refusal_line, Rejection.rejection_line, Solve.Solves, Check.Accepts}
use Rattle.lop_tool.specs.{Value.Weighs, Gen.Generates, Reply.reads, Reply.IsFirstRefusal, Reply.IsRejection}
use Rattle.lop_tool.specs.{Reply.IsAccepted}

-- the number is that of the status exactly where the fact holds; it yields to want of memory and to a fault
pub record ExactlyWhere (n : ℕ) (s : Status) (fact fault : Type 0) : Type 0 where
  pub only : n ≡ number s → fact
  pub always : fact → (n ≡ number s) ⊎ (n ≡ number status.Memory) ⊎ ((n ≡ number status.Fault) × fault)

-- the command was done: what is promised of value and bound, of the text and of the file left holds, the number says
-- whether value and bound are the same, the text was printed, and nothing else changed
pub record DoneBy (promise : Bool → List ℕ → Option NamedFile → Type 0) (old new : Option World) (n : ℕ) : Type 0 where
  pub optimal : Bool
  pub text : List ℕ
  pub left : Option NamedFile
  pub kept : promise optimal text left
  pub number_is : n ≡ number (done_status optimal)
  pub leaves : Leaves text left old new

-- A promise for each command, where its run ends with 0 or 6.

abbrev pub SolvesFile : Option Command → Option World → Option World → ℕ → Type 0
SolvesFile command old new n =
    (format : Format) (file : List ℕ) (workers nodes : ℕ) (cert : Option (List ℕ)) → command ≡ Some (Solve format file workers nodes cert) → IsDoneNumber n
    → DoneBy (Solves format file nodes cert (files_of old)) old new n

abbrev pub AcceptsCertificate : Option Command → Option World → Option World → ℕ → Type 0
AcceptsCertificate command old new n =
    (format : Format) (file cert : List ℕ) → command ≡ Some (Check format file cert) → IsDoneNumber n → DoneBy (Accepts format file cert (files_of old)) old new n

abbrev pub WeighsOrder : Option Command → Option World → Option World → ℕ → Type 0
WeighsOrder command old new n =
    (format : Format) (file order_file : List ℕ) → command ≡ Some (Value format file order_file) → IsDoneNumber n → DoneBy (Weighs format file order_file (files_of old)) old new n

abbrev pub GeneratesWeights : Option Command → Option World → Option World → ℕ → Type 0
GeneratesWeights command old new n = (seed k : ℕ) → command ≡ Some (Gen seed k) → IsDoneNumber n → DoneBy (Generates seed k) old new n

-- Rejections and refusals.

-- the certificate of the command is rejected
abbrev pub IsRejected : Option Command → World → Type 0
IsRejected command w = (rejection : Rejection) × IsSomeAnd command (λ c. IsRejection c (Some w.files) rejection)

-- what was printed is the line of the rejection
abbrev pub PrintsRejection : Option Command → Option World → Option World → Type 0
PrintsRejection command old new =
    (rejection : Rejection) × IsSomeAnd command (λ c. IsRejection c (files_of old) rejection) × PrintsOnly old new (rejection_line rejection)

-- an input of the command is refused
abbrev pub IsRefused : Option Command → World → Type 0
IsRefused command w = (refusal : Refusal) × IsSomeAnd command (λ c. IsFirstRefusal c (Some w.files) refusal)

-- what was printed is the line of the first refusal
abbrev pub PrintsRefusal : Option Command → Option World → Option World → Type 0
PrintsRefusal command old new =
    (refusal : Refusal) × IsSomeAnd command (λ c. IsFirstRefusal c (files_of old) refusal) × PrintsOnly old new (refusal_line refusal)

-- No other end.

-- files that are there, accepted inputs and no fault leave no other end
abbrev pub IsComplete : Option Command → World → ℕ → ℕ → ℕ → Type 0
IsComplete command w before now n =
    (given : Command) → command ≡ Some given → ¬ (Any (IsMissing (Some w)) (reads given)) → IsAccepted given w.files → ¬ (Rose before now) → IsDoneNumber n ⊎ (n ≡ number status.Memory)
