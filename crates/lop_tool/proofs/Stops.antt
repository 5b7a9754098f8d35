-- What is told of the files by each step, and why a command stops.
use Rattle.std.proofs.Common.{◌≡◌, ℕ, zero, suc, arith, ◌≤◌, List, [], ◌∷◌, Option, None, Some, IfSome, IfErr, Result, Ok, Err, inl, inr, refl, sym, ◌∙◌, ap, subst, ◌⊎◌}
use Rattle.std.specs.List.{Any}
use Rattle.lop_desk.proofs.Printing.{rose_from}
use Rattle.lop_tool.specs.Names.{World, NamedFile, file_named, IsMissing, Command, Format, Instance, InputRefusal, Refusal}
use Rattle.lop_tool.specs.Names.{Input, Stop, Rose}
use Rattle.lop_tool.specs.declared.stop.Stop.TheVariants as stop
use Rattle.lop_tool.specs.{Input.input_named, Told.files_of, Told.at_rest, Steps.RefusesFirst, Steps.StopsFor}
use Rattle.lop_tool.specs.{Steps.NoRefusal, Steps.FileCause, Steps.BeginCause, Reply.reads, Reply.IsFirstRefusal}
use Rattle.lop_tool.specs.Ended.{StopCause, Faulted}

-- what holds of the told files
pub told_files : (P : List NamedFile → Type 0) (told : Option World) → IfSome told (λ w. P w.files) → IfSome (files_of told) P
told_files P None holds = tt
told_files P (Some w) holds = holds

-- one fact of the told files leads to another
pub told_map : (P Q : List NamedFile → Type 0) (told : Option (List NamedFile)) → ((files : List NamedFile) → P files → Q files) → IfSome told P → IfSome told Q
told_map P Q None f holds = tt
told_map P Q (Some files) f holds = f files holds

-- two facts of the told files lead to another
pub told_both : (P R Q : List NamedFile → Type 0) (told : Option (List NamedFile)) → ((files : List NamedFile) → P files → R files → Q files) → IfSome told P → IfSome told R → IfSome told Q
told_both P R Q None f holds too = tt
told_both P R Q (Some files) f holds too = f files holds too

pub files-at_rest : (told : Option World) → files_of (at_rest told) ≡ files_of told
files-at_rest None = refl
files-at_rest (Some w) = refl

-- the files stay where all but the opened and the made file does
pub same_files : (old mid : Option World) → at_rest mid ≡ at_rest old → files_of mid ≡ files_of old
same_files old mid same = sym (files-at_rest mid) ∙ ap files_of same ∙ files-at_rest old

-- what holds of the files later held before
pub told_before : (P : List NamedFile → Type 0) (old mid : Option World) → at_rest mid ≡ at_rest old → IfSome mid (λ w. P w.files) → IfSome (files_of old) P
told_before P old mid same holds = subst (λ (t : Option (List NamedFile)). IfSome t P) (same_files old mid same) (told_files P mid holds)

-- a file that isn't there later wasn't there before
missing_before : (name : List ℕ) (old mid : Option World) → at_rest mid ≡ at_rest old → IsMissing mid name → IsMissing old name
missing_before name old None same missing = absurd missing
missing_before name None (Some v) same missing = absurd cc
missing_before name (Some w) (Some v) same missing = by (same_files (Some w) (Some v) same)
  where
    by : files_of (Some v) ≡ files_of (Some w) → file_named w.files name ≡ None
    by files = let same_list : v.files ≡ w.files = cc in ap (λ (fs : List NamedFile). file_named fs name) (sym same_list) ∙ missing

any_first : {X : Type 0} (P : X → Type 0) (x : X) (xs : List X) → P x → Any P (x ∷ xs)
any_first P x xs holds = (0, x, omega arith, refl, holds)

any_second : {X : Type 0} (P : X → Type 0) (x y : X) (xs : List X) → P y → Any P (x ∷ y ∷ xs)
any_second P x y xs holds = (1, y, omega arith, refl, holds)

-- of two, neither
pub not_any : {X : Type 0} (P : X → Type 0) (x y : X) → ¬ (P x) → ¬ (P y) → Any P (x ∷ y ∷ []) → ⊥
not_any P x y first second (zero, z, below, is, holds) = first (subst P (sym is) holds)
not_any P x y first second (suc zero, z, below, is, holds) = second (subst P (sym is) holds)
not_any P x y first second (suc (suc k), z, below, is, holds) = absurd (omega (arith, below))

-- one reason not to answer leads to another
pub stops_map : (P Q : Refusal → Type 0) (F G : Type 0) (s : Stop) → ((r : Refusal) → P r → Q r) → (F → G) → StopsFor P F s → StopsFor Q G s
stops_map P Q F G (stop.Refused refusal) refused fault cause = refused refusal cause
stops_map P Q F G stop.Fault refused fault cause = fault cause
stops_map P Q F G stop.Memory refused fault cause = tt

pub err_map : {X : Type 0} (P Q : Refusal → Type 0) (F G : Type 0) (r : Result X Stop) → ((r : Refusal) → P r → Q r) → (F → G) → IfErr r (StopsFor P F) → IfErr r (StopsFor Q G)
err_map P Q F G (Ok x) refused fault cause = tt
err_map P Q F G (Err s) refused fault cause = stops_map P Q F G s refused fault cause

-- the first file that a command reads wasn't read
pub first_file : (command : Command) (file : List ℕ) (rest : List (List ℕ)) (old : Option World) (before now : ℕ) (s : Stop) → reads command ≡ file ∷ rest → FileCause file old before now s → StopCause command old before now s
first_file command file rest old before now s is = stops_map NoRefusal (IsFirstRefusal command (files_of old)) (IsMissing old file ⊎ Rose before now) (Faulted (Some command) old before now) s (λ r none. absurd none) fault
  where
    fault : IsMissing old file ⊎ Rose before now → Faulted (Some command) old before now
    fault (inl missing) = inl (subst (Any (IsMissing old)) (sym is) (any_first (IsMissing old) file rest missing))
    fault (inr rose) = inr rose

-- the second file that a command reads wasn't read
pub second_file : (first second : List ℕ) (old mid : Option World) (before between now : ℕ) → at_rest mid ≡ at_rest old → before ≤ between → IsMissing mid second ⊎ Rose between now → Any (IsMissing old) (first ∷ second ∷ []) ⊎ Rose before now
second_file first second old mid before between now same later (inl missing) = inl (any_second (IsMissing old) first second [] (missing_before second old mid same missing))
second_file first second old mid before between now same later (inr rose) = inr (rose_from before between now later rose)

-- what the first file is refused for
pub first_refused : {X E : Type 0} (reading : List NamedFile → Option (Result X E)) (own : E → Refusal) (next : List NamedFile → X → Refusal → Type 0) (told : Option World) (e : E) → IfSome told (λ w. reading w.files ≡ Some (Err e))
    → IfSome (files_of told) (λ files. RefusesFirst (reading files) own (next files) (own e))
first_refused reading own next told e read =
    told_map (λ files. reading files ≡ Some (Err e)) (λ files. RefusesFirst (reading files) own (next files) (own e)) (files_of told) (λ files is. subst (λ o. RefusesFirst o own (next files) (own e)) (sym is) refl) (told_files (λ files. reading files ≡ Some (Err e)) told read)

pub input_refused : (format : Format) (file : List ℕ) (next : List NamedFile → Instance → Refusal → Type 0) (told : Option World) (e : InputRefusal) → IfSome told (λ w. input_named format w.files file ≡ Some (Err e))
    → IfSome (files_of told) (λ files. RefusesFirst (input_named format files file) Input (next files) (Input e))
input_refused format file next told e read = first_refused (λ files. input_named format files file) Input next told e read

-- no certificate's file was begun
pub not_begun : {X : Type 0} (command : Command) (old : Option World) (before between now : ℕ) (r : Result X Stop) → before ≤ between → IfErr r (BeginCause between now) → IfErr r (StopCause command old before now)
not_begun command old before between now r later =
    err_map NoRefusal (IsFirstRefusal command (files_of old)) (Rose between now) (Faulted (Some command) old before now) r (λ refusal none. absurd none) (λ rose. inr (rose_from before between now later rose))
