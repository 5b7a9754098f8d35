-- How the steps of `check` come to its reply.
use Rattle.std.proofs.Common.{◌≡◌, ℕ, ◌≤◌, List, [], drop, Option, None, Some, IfSome, IfOk, IfErr, unwrap_or, Result, Ok, Err, IsSome, ℤ, inr, refl, sym, ◌∙◌, ap, subst, ◌⊎◌, ◌∷◌}
use Rattle.std.specs.List.{Any}
use Rattle.lop_desk.proofs.Printing.{rose_from}
use Rattle.lop_certtext.proofs.Unique.{IsCheckAnswer-unique}
use Rattle.lop_tool.specs.Names.{World, NamedFile, file_named, unread, with_opened, IsThere, IsMissing, Matrix, CheckAnswer}
use Rattle.lop_tool.specs.Names.{IsCheckAnswer, accepted, too_long, Command, Check, Format, Instance, Refusal, Input}
use Rattle.lop_tool.specs.Names.{LongCertificate, Rejection, Outcome, Accepted, Rejected, Stop, Rose, is_optimal, accepted_text}
use Rattle.lop_tool.specs.declared.rejection.Rejection.TheVariants.{Certificate}
use Rattle.lop_tool.specs.{Told.files_of, Told.at_rest, Input.input_named, Check.GivesAnswer, Check.IsChecked}
use Rattle.lop_tool.specs.{Check.rejected_for, Check.RejectsCertificate, Check.IsLongCertificate, Check.answer_of}
use Rattle.lop_tool.specs.{Check.outcome_text, Check.outcome_status, Check.IsBounded, Check.AnswersRest, Check.RestStop}
use Rattle.lop_tool.specs.{Check.AnswersNamed, Check.NamedStop, Steps.RefusesFirst, Ended.StopCause, Ended.NoFile}
use Rattle.lop_tool.specs.Reply.{IsAccepted, IsRejection, IsFirstRefusal, IsReply, done, rejected as rejected_reply, IsRight}
use Rattle.lop_tool.proofs.Ends.{right_alone}
use Rattle.lop_tool.proofs.Stops.{told_files, told_map, told_both, told_before, err_map, second_file}

-- ---- the checker has one answer

given_once : (C : Matrix) (name : List ℕ) (files : List NamedFile) (a b : CheckAnswer) → GivesAnswer C name files a → GivesAnswer C name files b → a ≡ b
given_once C name files a b first second =
    let read : first.bytes ≡ second.bytes = cc (first.there, second.there) in
    IsCheckAnswer-unique C second.bytes a b (subst (λ (bs : List ℕ). IsCheckAnswer C bs a) read first.answer_is) second.answer_is

pub checked_once : (format : Format) (file cert : List ℕ) (files : List NamedFile) (C D : Instance) (a b : CheckAnswer) → IsChecked format file cert files C a → IsChecked format file cert files D b → a ≡ b
checked_once format file cert files C D a b first second =
    let same : C ≡ D = cc (first.accepted_file, second.accepted_file) in
    given_once D.weights cert files a b (subst (λ (i : Instance). GivesAnswer i.weights cert files a) same first.given) second.given

not_long : (r : Rejection) → rejected_for r ≡ too_long → ⊥
not_long (Certificate line reason) is = cc

not_accepted : (r : Rejection) (value bound : ℤ) → rejected_for r ≡ accepted value bound → ⊥
not_accepted (Certificate line reason) value bound is = cc

-- ---- the steps

-- all of a file that was just opened is still to be read
fresh : (bytes : Option (List ℕ)) → IsSome bytes → (b : List ℕ) × (bytes ≡ Some b) × (drop 0 (unwrap_or bytes []) ≡ b)
fresh None there = absurd cc
fresh (Some b) there = (b, refl, refl)

abbrev to_read : Option World → List ℕ
to_read None = []
to_read (Some v) = unread v

gives_at : (C : Matrix) (name : List ℕ) (w v : World) (answer : CheckAnswer) → Some v ≡ with_opened (Some (record { name = name; place = 0 })) (Some w) → IsSome (file_named w.files name) → IsCheckAnswer C (unread v) answer → GivesAnswer C name w.files answer
gives_at C name w v answer is there found =
    let all = fresh (file_named w.files name) there in
    let rest : unread v ≡ all.0 = ap to_read is ∙ all.2 in
    record { bytes = all.0; there = all.1; answer_is = subst (λ (bs : List ℕ). IsCheckAnswer C bs answer) rest found }

gives_opened : (C : Matrix) (name : List ℕ) (old new : Option World) (answer : CheckAnswer) → new ≡ with_opened (Some (record { name = name; place = 0 })) old → IsThere old name → AnswersRest C new answer → AnswersNamed C name old answer
gives_opened C name None new answer is there found = tt
gives_opened C name (Some w) None answer is there found = absurd cc
gives_opened C name (Some w) (Some v) answer is there found = gives_at C name w v answer is there found

pub answers_opened : {E : Type 0} (C : Matrix) (name : List ℕ) (old new : Option World) (r : Result Outcome E) → new ≡ with_opened (Some (record { name = name; place = 0 })) old → IsThere old name → IfOk r (λ x. AnswersRest C new (answer_of x)) → IfOk r (λ x. AnswersNamed C name old (answer_of x))
answers_opened C name old new (Ok x) is there found = gives_opened C name old new (answer_of x) is there found
answers_opened C name old new (Err e) is there found = tt

pub stops_opened : (C : Matrix) (name : List ℕ) (old new : Option World) (before between now : ℕ) (r : Result Outcome Stop) → new ≡ with_opened (Some (record { name = name; place = 0 })) old → IsThere old name → before ≤ between → IfErr r (RestStop C new between now)
    → IfErr r (NamedStop C name old before now)
stops_opened C name old new before between now r is there later =
    err_map (λ f. (f ≡ LongCertificate) × AnswersRest C new too_long) (λ f. (f ≡ LongCertificate) × AnswersNamed C name old too_long) (Rose between now) (IsMissing old name ⊎ Rose before now) r
    (λ f found. (found.0, gives_opened C name old new too_long is there found.1)) (λ rose. inr (rose_from before between now later rose))

-- ---- the reply

checked_at : (format : Format) (file cert : List ℕ) (input : Instance) (answer : CheckAnswer) (files : List NamedFile) → input_named format files file ≡ Some (Ok input) → GivesAnswer input.weights cert files answer → IsChecked format file cert files input answer
checked_at format file cert input answer files read given = record { accepted_file = read; given = given }

-- what is accepted is neither refused nor rejected
pub accepted_at : (format : Format) (file cert : List ℕ) (input : Instance) (value bound : ℤ) (files : List NamedFile) → IsChecked format file cert files input (accepted value bound) → IsAccepted (Check format file cert) files
accepted_at format file cert input value bound files checked = record {
  unrefused = λ refusal refused.
      let long = subst (λ o. RefusesFirst o Input (λ i. IsLongCertificate i.weights cert files) refusal) checked.accepted_file refused in
      let same : accepted value bound ≡ too_long = given_once input.weights cert files (accepted value bound) too_long checked.given long.given in absurd cc;
  unrejected = λ rejection r. not_accepted rejection value bound (checked_once format file cert files r.input input (rejected_for rejection) (accepted value bound) r.checked checked);
}

outcome_right : (format : Format) (file cert : List ℕ) (input : Instance) (told : Option (List NamedFile)) (x : Outcome) → IsBounded input.weights input.decimals x → IfSome told (λ files. IsChecked format file cert files input (answer_of x)) → IsReply told (Some (Check format file cert)) (outcome_status x) (outcome_text x) None
outcome_right format file cert input told (Accepted value bound k) bounded checked =
    done (is_optimal value bound) (told_map (λ files. IsChecked format file cert files input (accepted value bound)) (IsAccepted (Check format file cert)) told (accepted_at format file cert input value bound) checked) (record {
      input = input;
      value = value;
      bound = bound;
      checked = checked;
      weighed = bounded.0;
      bounds = bounded.1;
      optimal_is = refl;
      text_is = ap (λ (d : ℕ). accepted_text d value bound) bounded.2;
      left_is = refl;
    })
outcome_right format file cert input told (Rejected r) bounded checked =
    rejected_reply r (told_map (λ files. IsChecked format file cert files input (rejected_for r)) (λ files. RejectsCertificate format file cert files r) told (λ files c. record { input = input; checked = c }) checked) refl

pub check_right : {E : Type 0} (format : Format) (file cert : List ℕ) (input : Instance) (old mid : Option World) (r : Result Outcome E) → at_rest mid ≡ at_rest old → IfSome old (λ w. input_named format w.files file ≡ Some (Ok input)) → IfOk r (IsBounded input.weights input.decimals) → IfOk r (λ x. AnswersNamed input.weights cert mid (answer_of x))
    → IfOk r (λ x. IsRight (files_of old) (Some (Check format file cert)) (outcome_status x) (outcome_text x) NoFile)
check_right format file cert input old mid (Ok x) same read bounded answers =
    right_alone (files_of old) (Some (Check format file cert)) (outcome_status x) (outcome_text x) (outcome_right format file cert input (files_of old) x bounded
    (told_both (λ files. input_named format files file ≡ Some (Ok input)) (λ files. GivesAnswer input.weights cert files (answer_of x)) (λ files. IsChecked format file cert files input (answer_of x)) (files_of old)
    (checked_at format file cert input (answer_of x)) (told_files (λ files. input_named format files file ≡ Some (Ok input)) old read) (told_before (λ files. GivesAnswer input.weights cert files (answer_of x)) old mid same answers)))
check_right format file cert input old mid (Err e) same read bounded answers = tt

pub check_stops : (format : Format) (file cert : List ℕ) (input : Instance) (old mid : Option World) (before between now : ℕ) (r : Result Outcome Stop) → at_rest mid ≡ at_rest old → before ≤ between → IfSome old (λ w. input_named format w.files file ≡ Some (Ok input)) → IfErr r (NamedStop input.weights cert mid between now)
    → IfErr r (StopCause (Check format file cert) old before now)
check_stops format file cert input old mid before between now r same later read =
    let accepted : List NamedFile → Type 0 = λ files. input_named format files file ≡ Some (Ok input) in
    let long : List NamedFile → Type 0 = λ files. GivesAnswer input.weights cert files too_long in
    let first : Refusal → List NamedFile → Type 0 = λ f files. RefusesFirst (input_named format files file) Input (λ i. IsLongCertificate i.weights cert files) f in
    err_map (λ f. (f ≡ LongCertificate) × AnswersNamed input.weights cert mid too_long) (λ f. IfSome (files_of old) (first f)) (IsMissing mid cert ⊎ Rose between now) (Any (IsMissing old) (file ∷ cert ∷ []) ⊎ Rose before now) r
    (λ f cause. told_both accepted long (first f) (files_of old)
    (λ files is given. subst (λ o. RefusesFirst o Input (λ i. IsLongCertificate i.weights cert files) f) (sym is) (record { refusal_is = cause.0; given = given })) (told_files accepted old read) (told_before long old mid same cause.1))
    (second_file file cert old mid before between now same later)

-- what is rejected is not refused
pub rejected_unrefused : (c : Command) (files : List NamedFile) (r : Rejection) (f : Refusal) → IsRejection c (Some files) r → IsFirstRefusal c (Some files) f → ⊥
rejected_unrefused (Check format file cert) files r f rejection refused =
    let long = subst (λ o. RefusesFirst o Input (λ i. IsLongCertificate i.weights cert files) f) rejection.checked.accepted_file refused in
    not_long r (given_once rejection.input.weights cert files (rejected_for r) too_long rejection.checked.given long.given)
rejected_unrefused other files r f rejection refused = absurd rejection
