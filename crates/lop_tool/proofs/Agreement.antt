-- A certificate that was written is accepted by the check that follows.
use Rattle.std.proofs.Common.{◌≡◌, ◌≢◌, ◌⊎◌, ℕ, ◌≤◌, false, Bool, List, Option, None, Some, ℤ, refl, sym, ◌∙◌, ap, subst, inl, inr}
use Rattle.std.specs.List.{Any}
use Rattle.std.specs.Str.{bytes_eq}
use Rattle.std.proofs.lemmas.Bool.Decides.{not_from_Decides}
use Rattle.std.proofs.lemmas.Slice.Eq.{bytes_eq-Decides}
use Rattle.lop_desk.proofs.Files.{named_put, named_put_other}
use Rattle.lop_desk.proofs.Printing.{rose_from}
use Rattle.lop_certtext.proofs.AcceptedText.{IsCheckAnswer-certificate_text}
use Rattle.lop_words.specs.Command.{command_of}
use Rattle.lop_words.proofs.CommandLemmas.{names_apart, limits}
use Rattle.lop_tool.specs.Names.{World, NamedFile, file_named, put_file, Rose, IsMissing, Matrix, CheckAnswer, accepted}
use Rattle.lop_tool.specs.Names.{certificate_text, Two, IsTreeCertificate, is_optimal, Command, Solve, Check, Format, Instance}
use Rattle.lop_tool.specs.Names.{IsCheckAnswer}
use Rattle.lop_tool.specs.declared.status.Status.TheVariants as status
use Rattle.lop_tool.specs.{Status.number, Status.done_status, Status.IsDoneNumber, Told.files_of, Told.Leaves}
use Rattle.lop_tool.specs.{Input.input_named, Input.reading_of, Search.Found, Solve.Solves, Check.IsChecked, Reply.reads}
use Rattle.lop_tool.specs.{Ended.Ended, Run.DoneBy, RoundTrip.BothEnded, RoundTrip.IsRoundTrip, RoundTrip.round_trip}
use Rattle.lop_tool.specs.{RoundTrip.Agree}
use Rattle.lop_tool.proofs.CertificateLength.{length-certificate_of}
use Rattle.lop_tool.proofs.CheckLemmas.{checked_once, accepted_at}
use Rattle.lop_tool.proofs.Stops.{files-at_rest, not_any}
use Rattle.lop_tool.proofs.Promises.{solves, checks, ends_well}
use Rattle.lop_core.specs.declared.search.TheConstants.{MAX_BUDGET}

-- ---- a check of an accepted certificate

-- its two files are there
both_there : (format : Format) (file name : List ℕ) (v : World) (input : Instance) (answer : CheckAnswer) → IsChecked format file name v.files input answer → ¬ (Any (IsMissing (Some v)) (reads (Check format file name)))
both_there format file name v input answer checked = not_any (IsMissing (Some v)) file name
    (λ missing. let none : input_named format v.files file ≡ None = ap (reading_of format) missing in let some = checked.accepted_file in cc)
    (λ missing. let some = checked.given.there in cc)

same_numbers : (value bound other more : ℤ) → accepted value bound ≡ accepted other more → is_optimal value bound ≡ is_optimal other more
same_numbers value bound other more is = let first : value ≡ other = cc in let second : bound ≡ more = cc in ap (λ (x : ℤ). is_optimal x bound) first ∙ ap (is_optimal other) second

accepted_ends : (format : Format) (file name : List ℕ) (v : World) (new : Option World) (before now n : ℕ) (input : Instance) (value bound : ℤ) → Ended (Some (Check format file name)) (Some v) new before now n → IsChecked format file name v.files input (accepted value bound) → ¬ (Rose before now)
    → (n ≡ number (done_status (is_optimal value bound))) ⊎ (n ≡ number status.Memory)
accepted_ends format file name v new before now n input value bound ended checked calm =
    elim (ends_well new before now n (Check format file name) v ended (both_there format file name v input (accepted value bound) checked) (accepted_at format file name input value bound v.files checked) calm) [
      | inl ends ↦
          let d = checks (Some v) new before now n (Some (Check format file name)) ended format file name refl ends in
          let same = checked_once format file name v.files d.kept.input input (accepted d.kept.value d.kept.bound) (accepted value bound) d.kept.checked checked in
          inl (d.number_is ∙ ap (λ (b : Bool). number (done_status b)) (d.kept.optimal_is ∙ same_numbers d.kept.value d.kept.bound value bound same))
      | inr five ↦ inr five
    ]

-- ---- the certificate of a search

-- what stands under the name is accepted with the numbers that were found
left_accepted : (format : Format) (file name : List ℕ) (nodes : ℕ) (w v : World) (optimal : Bool) (text : List ℕ) (left : Option NamedFile) → name ≢ file → nodes ≤ MAX_BUDGET → (s : Solves format file nodes (Some name) (Some w.files) optimal text left) → v.files ≡ put_file (record { name = name; bytes = certificate_text Two s.left_is.certificate }) w.files
    → IsChecked format file name v.files s.input (accepted s.found.value s.found.bound)
left_accepted format file name nodes w v optimal text left apart few s files =
    let c = s.left_is.certificate in
    let made : NamedFile = record { name = name; bytes = certificate_text Two c } in
    let holds : IsTreeCertificate s.input.weights c = subst (λ (C : Matrix). IsTreeCertificate C c) s.search.weights_are s.left_is.true_of.holds in
    let short = length-certificate_of s.input.weights nodes s.found s.core c few s.search s.left_is.true_of.of_core s.left_is.true_of.holds s.left_is.true_of.has_text in
    let answer : IsCheckAnswer s.input.weights (certificate_text Two c) (accepted c.value c.bound) = IsCheckAnswer-certificate_text s.input.weights s.search.searched.weights c holds Two s.left_is.true_of.has_text short in
    let value : c.value ≡ s.found.value = s.left_is.true_of.of_core.value_is ∙ ap (λ (x : Found). x.value) (sym s.search.found_is) in
    let bound : c.bound ≡ s.found.bound = s.left_is.true_of.of_core.bound_is ∙ ap (λ (x : Found). x.bound) (sym s.search.found_is) in
    let numbers : accepted c.value c.bound ≡ accepted s.found.value s.found.bound = ap (λ (x : ℤ). accepted x c.bound) value ∙ ap (accepted s.found.value) bound in record {
      accepted_file = ap (λ (fs : List NamedFile). input_named format fs file) files ∙ ap (reading_of format) (named_put_other made w.files file apart) ∙ s.accepted_file;
      given = record { bytes = certificate_text Two c; there = ap (λ (fs : List NamedFile). file_named fs name) files ∙ named_put made w.files; answer_is = subst (λ (a : CheckAnswer). IsCheckAnswer s.input.weights (certificate_text Two c) a) numbers answer };
    }

-- the file that was left is among those told after
files_left : (w : World) (mid : Option World) (text : List ℕ) (left : Option NamedFile) (made : NamedFile) → left ≡ Some made → Leaves text left (Some w) mid → files_of mid ≡ Some (put_file made w.files)
files_left w mid text left made is leaves =
    let named : Leaves text (Some made) (Some w) mid = subst (λ (l : Option NamedFile). Leaves text l (Some w) mid) is leaves in
    sym (files-at_rest mid) ∙ ap files_of named

-- the two runs of a round trip
trip : (format : Format) (file name : List ℕ) (nodes : ℕ) (w : World) (mid new : Option World) (before between now solved checked : ℕ) → name ≢ file → nodes ≤ MAX_BUDGET → DoneBy (Solves format file nodes (Some name) (Some w.files)) (Some w) mid solved → Ended (Some (Check format file name)) mid new between now checked
    → before ≤ between → ¬ (Rose before now) → (checked ≡ solved) ⊎ (checked ≡ number status.Memory)
trip format file name nodes w None new before between now solved checked apart few d second later calm =
    let files = files_left w None d.text d.left _ d.kept.left_is.file_is d.leaves in absurd cc
trip format file name nodes w (Some v) new before between now solved checked apart few d second later calm =
    let told = files_left w (Some v) d.text d.left _ d.kept.left_is.file_is d.leaves in
    let files : v.files ≡ put_file (record { name = name; bytes = certificate_text Two d.kept.left_is.certificate }) w.files = cc in
    let checked_is = left_accepted format file name nodes w v d.optimal d.text d.left apart few d.kept files in
    elim (accepted_ends format file name v new between now checked d.kept.input d.kept.found.value d.kept.found.bound second checked_is (λ rose. calm (rose_from before between now later rose))) [
      | inl is ↦ inl (is ∙ sym (d.number_is ∙ ap (λ (b : Bool). number (done_status b)) d.kept.optimal_is))
      | inr five ↦ inr five
    ]

-- a name that a test finds to be another is another
other_name : (n f : List ℕ) → bytes_eq n f ≡ false → n ≢ f
other_name n f test same = not_from_Decides (bytes_eq n f) (bytes_eq-Decides n f) test same

agree_told : (words others : List (List ℕ)) (w : World) (new : Option World) (before now solved checked : ℕ) → BothEnded (command_of words) (command_of others) (Some w) new before now solved checked → IsRoundTrip (command_of words) (command_of others) → ¬ (Rose before now) → IsDoneNumber solved
    → (checked ≡ solved) ⊎ (checked ≡ number status.Memory)
agree_told words others w new before now solved checked both (round_trip format file name workers nodes first second) calm ends =
    let apart : name ≢ file = other_name name file (names_apart words format file name workers nodes first) in
    trip format file name nodes w both.between new before both.faults_between now solved checked apart (limits words (Solve format file workers nodes (Some name)) first).3
    (solves (Some w) both.between before both.faults_between solved (command_of words) both.first_ended format file workers nodes (Some name) first ends)
    (subst (λ (c : Option Command). Ended c both.between new both.faults_between now checked) second both.second_ended) both.first_later calm

pub agree : (words others : List (List ℕ)) (old new : Option World) (before now solved checked : ℕ) → BothEnded (command_of words) (command_of others) old new before now solved checked → Agree (command_of words) (command_of others) old before now solved checked
agree words others None new before now solved checked both = tt
agree words others (Some w) new before now solved checked both = λ trip calm ends. agree_told words others w new before now solved checked both trip calm ends
