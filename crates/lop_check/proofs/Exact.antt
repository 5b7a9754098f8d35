-- Exactly the texts of true certificates are accepted.
use Rattle.std.proofs.Common.{◌≡◌, ◌+◌, ◌≤◌, ◌^◌, List, [], ℕ, ℤ, length, sym, ◌∙◌, ap, subst, refl}
use Rattle.std.proofs.Common.{Option, None, Some, Ok, Err}
use Rattle.std.specs.Prelude.{IfSome, Result, MatchResult}
use Rattle.lop_desk.specs.World.{World, unread}
use Rattle.lop_desk.specs.LineState.{LineState}
use Rattle.lop_model.specs.Matrix.{Matrix, IsWeights, IsUpperBound}
use Rattle.lop_model.specs.Closing.{closed}
use Rattle.lop_model.proofs.Closings.{AreClosures-closed}
use Rattle.lop_certtext.specs.Certificate.{IsCertificateText, certificate_text}
use Rattle.lop_certtext.specs.Answer.{TextLine, CheckAnswer, accepted, rejected, too_long, version_step, check_answer, IsCheckAnswer}
use Rattle.lop_certtext.proofs.TreeBounds.{IsUpperBound-certificate}
use Rattle.lop_certtext.proofs.AcceptedText.{IsCheckAnswer-certificate_text}
use Rattle.lop_certtext.proofs.OnlyTrue.{IsCertificateText-IsCheckAnswer, accepted_lines}
use Rattle.lop_certtext.proofs.Unique.{IsCheckAnswer-one, IsCheckAnswer-unique}
use Rattle.lop_check.specs.declared.verdict.Verdict.{Verdict}
use Rattle.lop_check.specs.declared.verdict.Verdict.TheVariants.{Accepted, Rejected, Failed, TooLong, Memory}
use Rattle.lop_check.specs.Verdict.{IsVerdict, Says, IsExact, IsBounded, VerdictCause}
use Rattle.lop_check.specs.declared.reading.Reading.{Reading}
use Rattle.lop_check.specs.Walk.{Answers, HandsOver, Spot, lines_to_come}
use Rattle.lop_check.specs.declared.header.Claim.{Claim}
use Rattle.lop_desk.specs.Whole.{OnlyOpens}
use Rattle.lop_check.proofs.Walk.{always}

-- what the walk with one function of closures says is the answer
pub says_answer : (C : Matrix) (bytes : List ℕ) (verdict : Verdict) → Says (check_answer closed C bytes) verdict → IsVerdict (IsCheckAnswer C bytes) verdict
says_answer C bytes (Accepted value bound) e = IsCheckAnswer-one C bytes closed (accepted value bound) AreClosures-closed e
says_answer C bytes (Rejected line reason) e = IsCheckAnswer-one C bytes closed (rejected line reason) AreClosures-closed e
says_answer C bytes TooLong e = IsCheckAnswer-one C bytes closed too_long AreClosures-closed e
says_answer C bytes Failed e = tt
says_answer C bytes Memory e = tt

text_accepted : (C : Matrix) (bytes : List ℕ) (v b : ℤ) → IsWeights C → IsCertificateText C bytes v b → IsCheckAnswer C bytes (accepted v b)
text_accepted C bytes v b weights t =
    let there = IsCheckAnswer-certificate_text C weights t.certificate t.holds t.version t.has_text (subst (λ (l : List ℕ). length l ≤ 2 ^ 40) t.text t.fits) in
    let same : accepted t.certificate.value t.certificate.bound ≡ accepted v b = ap (λ (x : ℤ). accepted x t.certificate.bound) t.value_is ∙ ap (λ (y : ℤ). accepted v y) t.bound_is in
    subst (λ (l : List ℕ). IsCheckAnswer C l (accepted v b)) (sym t.text) (subst (λ (a : CheckAnswer). IsCheckAnswer C (certificate_text t.version t.certificate) a) same there)

pub exact : (C : Matrix) (bytes : List ℕ) (verdict : Verdict) → IsWeights C → IsVerdict (IsCheckAnswer C bytes) verdict → IsExact C bytes verdict
exact C bytes (Accepted value bound) weights e = IsCertificateText-IsCheckAnswer C bytes value bound e
exact C bytes (Rejected line reason) weights e = λ v b t. let clash = IsCheckAnswer-unique C bytes (rejected line reason) (accepted v b) e (text_accepted C bytes v b weights t) in cc
exact C bytes TooLong weights e = λ v b t. let clash = IsCheckAnswer-unique C bytes too_long (accepted v b) e (text_accepted C bytes v b weights t) in cc
exact C bytes Failed weights e = tt
exact C bytes Memory weights e = tt

-- what is accepted is bounded
bounded_lines : (C : Matrix) (lines : List TextLine) (v : Verdict) → Says (version_step closed C 1 lines) v → IsBounded C v
bounded_lines C lines (Accepted value bound) e =
    let x = accepted_lines C lines value bound e in (
      record { order = x.certificate.order; is_order = x.holds.order_is; weighs = sym x.holds.value_is ∙ x.value_is },
      subst (IsUpperBound C) x.bound_is (IsUpperBound-certificate C x.certificate x.holds),
    )
bounded_lines C lines (Rejected line reason) e = tt
bounded_lines C lines TooLong e = tt
bounded_lines C lines Failed e = tt
bounded_lines C lines Memory e = tt

-- what the walk answers for a file of which nothing was read
pub record Answered (C : Matrix) (told : Option World) (v : Verdict) : Type 0 where
  pub answer : IfSome told (λ w. IsVerdict (IsCheckAnswer C (unread w)) v)
  pub exact_is : IfSome told (λ w. IsExact C (unread w) v)
  pub bounded : IsBounded C v

abbrev start : LineState
start = record { count = 0; pending = []; line = [] }

answered_at : (C : Matrix) (told : Option World) (v : Verdict) → IsWeights C → Answers told start (version_step closed C 1) v → Answered C told v
answered_at C None v weights h = record { answer = tt; exact_is = tt; bounded = bounded_lines C h.0 v h.1 }
answered_at C (Some w) v weights h =
    let answer = says_answer C (unread w) v h in
    record { answer = answer; exact_is = exact C (unread w) v weights answer; bounded = bounded_lines C (lines_to_come w start) v h }

pub answered : (C : Matrix) (told : Option World) (r : Reading) (v : Verdict) → IsWeights C → r.lines ≡ start → r.number ≡ 0 → Answers told r.lines (version_step closed C (r.number + 1)) v → Answered C told v
answered C told r v weights lines number h = answered_at C told v weights (rw (lines, number) at h)

-- what a whole check says, by where it began and ended
pub record Ended (C : Matrix) (a b : Spot) (v : Verdict) : Type 0 where
  pub answered_is : Answered C a.told v
  pub world : OnlyOpens a.told b.told
  pub later : a.faults ≤ b.faults
  pub cause : VerdictCause a.faults b.faults v

pub ended : (C : Matrix) (a b : Spot) (r : Result Claim Verdict) (v : Verdict) → IsWeights C → a.reading.lines ≡ start → a.reading.number ≡ 0 → HandsOver a b (version_step closed C (a.reading.number + 1)) (λ claim _. accepted claim.value claim.bound) r
    → MatchResult r (λ claim. v ≡ Accepted claim.value claim.bound) (λ w. v ≡ w) → Ended C a b v
ended C a b (Ok claim) v weights lines number h is = subst (Ended C a b) (sym is) (record {
  answered_is = answered C a.told a.reading (Accepted claim.value claim.bound) weights lines number (h.carries (Accepted claim.value claim.bound) (always b.told b.reading.lines (λ _. accepted claim.value claim.bound) (Accepted claim.value claim.bound) (λ _. refl)));
  world = h.world;
  later = h.later;
  cause = tt;
})
ended C a b (Err w) v weights lines number h is = subst (Ended C a b) (sym is) (record { answered_is = answered C a.told a.reading w weights lines number h.answer; world = h.world; later = h.later; cause = h.cause })
