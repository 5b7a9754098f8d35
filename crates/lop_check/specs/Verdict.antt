-- What a verdict says of the text, of the weights and of the desk.
use Rattle.std.specs.Prelude.{◌≡◌, ℕ, List, ℤ, ⊤}
use Rattle.lop_desk.specs.Causes.{Rose}
use Rattle.lop_model.specs.Attained.{IsAttained}
use Rattle.lop_model.specs.Matrix.{Matrix, IsUpperBound}
use Rattle.lop_certtext.specs.Certificate.{IsCertificateText}
use Rattle.lop_certtext.specs.Answer.{CheckAnswer, accepted, rejected, too_long}
use Rattle.lop_check.specs.declared.verdict.Verdict.{Verdict}
use Rattle.lop_check.specs.declared.verdict.Verdict.TheVariants.{Accepted, Rejected, Failed, TooLong, Memory}

-- the verdict says what the answer is; Failed and Memory say nothing of it
abbrev pub IsVerdict : (CheckAnswer → Type 0) → Verdict → Type 0
IsVerdict is_answer (Accepted value bound) = is_answer (accepted value bound)
IsVerdict is_answer (Rejected line reason) = is_answer (rejected line reason)
IsVerdict is_answer TooLong = is_answer too_long
IsVerdict is_answer Failed = ⊤
IsVerdict is_answer Memory = ⊤

-- the verdict says that this is the answer
abbrev pub Says : CheckAnswer → Verdict → Type 0
Says answer (Accepted value bound) = answer ≡ accepted value bound
Says answer (Rejected line reason) = answer ≡ rejected line reason
Says answer TooLong = answer ≡ too_long
Says answer Failed = ⊤
Says answer Memory = ⊤

-- an accepted text is the text of a true certificate, of at most 2^40 bytes; one that is not accepted is none
abbrev pub IsExact : Matrix → List ℕ → Verdict → Type 0
IsExact C bytes (Accepted value bound) = IsCertificateText C bytes value bound
IsExact C bytes (Rejected line reason) = (value bound : ℤ) → ¬ (IsCertificateText C bytes value bound)
IsExact C bytes TooLong = (value bound : ℤ) → ¬ (IsCertificateText C bytes value bound)
IsExact C bytes Failed = ⊤
IsExact C bytes Memory = ⊤

-- an accepted value is the weight of some order, and no order weighs more than the accepted bound
abbrev pub IsBounded : Matrix → Verdict → Type 0
IsBounded C (Accepted value bound) = IsAttained C value × IsUpperBound C bound
IsBounded C (Rejected line reason) = ⊤
IsBounded C TooLong = ⊤
IsBounded C Failed = ⊤
IsBounded C Memory = ⊤

-- the count of faults rose where the verdict is Failed
abbrev pub VerdictCause : ℕ → ℕ → Verdict → Type 0
VerdictCause before now Failed = Rose before now
VerdictCause before now (Accepted value bound) = ⊤
VerdictCause before now (Rejected line reason) = ⊤
VerdictCause before now TooLong = ⊤
VerdictCause before now Memory = ⊤
