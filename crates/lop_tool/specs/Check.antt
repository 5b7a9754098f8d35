-- What `check` promises.
use Rattle.std.specs.Prelude.{◌≡◌, ◌≤◌, ◌⊎◌, ℕ, ℤ, Bool, List, Option, None, Some, IfSome, Ok, ⊤, [], ◌∷◌}
use Rattle.lop_model.specs.Attained.{IsAttained}
use Rattle.lop_report.specs.declared.decimal.TheConstants.{MAX_DECIMALS}
use Rattle.lop_tool.specs.Names.{World, NamedFile, file_named, unread, Rose, IsMissing, Matrix, IsUpperBound, CheckAnswer}
use Rattle.lop_tool.specs.Names.{accepted, rejected, too_long, IsCheckAnswer, is_optimal, accepted_text, Format, Instance}
use Rattle.lop_tool.specs.Names.{Refusal, LongCertificate, Input, Rejection, Status, Outcome, Accepted, Rejected, Stop}
use Rattle.lop_tool.specs.declared.status.Status.TheVariants as status
use Rattle.lop_tool.specs.declared.rejection.Rejection.TheVariants.{Certificate}
use Rattle.lop_tool.specs.{Status.done_status, Rejection.rejection_line, Input.input_named, Steps.Steps}
use Rattle.lop_tool.specs.{Steps.RefusesFirst, Steps.StopsFor}

-- the checker's answer for the bytes under a name
pub record GivesAnswer (C : Matrix) (name : List ℕ) (files : List NamedFile) (answer : CheckAnswer) : Type 0 where
  pub bytes : List ℕ
  pub there : file_named files name ≡ Some bytes
  pub answer_is : IsCheckAnswer C bytes answer

-- the file is accepted with this input, and this is the checker's answer for the certificate
pub record IsChecked (format : Format) (file cert : List ℕ) (files : List NamedFile) (input : Instance) (answer : CheckAnswer) : Type 0 where
  pub accepted_file : input_named format files file ≡ Some (Ok input)
  pub given : GivesAnswer input.weights cert files answer

-- the checker accepts the certificate, no order of the file weighs more than the bound, and the text tells both numbers
pub record Accepts (format : Format) (file cert : List ℕ) (told : Option (List NamedFile)) (optimal : Bool) (text : List ℕ) (left : Option NamedFile) : Type 0 where
  pub input : Instance
  pub value : ℤ
  pub bound : ℤ
  pub checked : IfSome told (λ files. IsChecked format file cert files input (accepted value bound))
  pub weighed : IsAttained input.weights value
  pub bounds : IsUpperBound input.weights bound
  pub optimal_is : optimal ≡ is_optimal value bound
  pub text_is : text ≡ accepted_text input.decimals value bound
  pub left_is : left ≡ None

-- the answer that a rejection stands for
abbrev pub rejected_for : Rejection → CheckAnswer
rejected_for (Certificate line reason) = rejected line reason

-- the file is accepted, and the checker rejects the certificate for this
pub record RejectsCertificate (format : Format) (file cert : List ℕ) (files : List NamedFile) (rejection : Rejection) : Type 0 where
  pub input : Instance
  pub checked : IsChecked format file cert files input (rejected_for rejection)

-- the certificate is longer than the checker reads
pub record IsLongCertificate (C : Matrix) (cert : List ℕ) (files : List NamedFile) (refusal : Refusal) : Type 0 where
  pub refusal_is : refusal ≡ LongCertificate
  pub given : GivesAnswer C cert files too_long

-- it reads two files: the certificate may be too long, or rejected
abbrev pub check_steps : Format → List ℕ → List ℕ → Steps
check_steps format file cert = record {
  reads = file ∷ cert ∷ [];
  refuses = λ told refusal. IfSome told (λ files. RefusesFirst (input_named format files file) Input
      (λ input. IsLongCertificate input.weights cert files) refusal);
  rejects = λ told rejection. IfSome told (λ files. RejectsCertificate format file cert files rejection);
  does = Accepts format file cert;
}

-- The reply.

-- the checker's answer that an outcome stands for
abbrev pub answer_of : Outcome → CheckAnswer
answer_of (Accepted value bound k) = accepted value bound
answer_of (Rejected rejection) = rejected_for rejection

abbrev pub outcome_text : Outcome → List ℕ
outcome_text (Accepted value bound k) = accepted_text k value bound
outcome_text (Rejected rejection) = rejection_line rejection

abbrev pub outcome_status : Outcome → Status
outcome_status (Accepted value bound k) = done_status (is_optimal value bound)
outcome_status (Rejected rejection) = status.Rejected

-- an accepted value is the weight of some order of the instance, no order weighs more than the accepted bound, and both
-- are in the instance's units
abbrev pub IsBounded : Matrix → ℕ → Outcome → Type 0
IsBounded C decimals (Accepted value bound k) = IsAttained C value × IsUpperBound C bound × (k ≡ decimals)
IsBounded C decimals (Rejected rejection) = ⊤

-- what printing asks of it
abbrev pub IsPrintableOutcome : Outcome → Type 0
IsPrintableOutcome (Accepted value bound k) = k ≤ MAX_DECIMALS
IsPrintableOutcome (Rejected rejection) = ⊤

-- what the bytes that are still to be read come to, or why they come to nothing
abbrev pub AnswersRest : Matrix → Option World → CheckAnswer → Type 0
AnswersRest C told answer = IfSome told (λ w. IsCheckAnswer C (unread w) answer)

abbrev pub RestStop : Matrix → Option World → ℕ → ℕ → Stop → Type 0
RestStop C told before now = StopsFor (λ refusal. (refusal ≡ LongCertificate) × AnswersRest C told too_long) (Rose before now)

-- what the certificate under a name comes to, or why it comes to nothing
abbrev pub AnswersNamed : Matrix → List ℕ → Option World → CheckAnswer → Type 0
AnswersNamed C name told answer = IfSome told (λ w. GivesAnswer C name w.files answer)

abbrev pub NamedStop : Matrix → List ℕ → Option World → ℕ → ℕ → Stop → Type 0
NamedStop C name told before now =
    StopsFor (λ refusal. (refusal ≡ LongCertificate) × AnswersNamed C name told too_long) (IsMissing told name ⊎ Rose before now)
