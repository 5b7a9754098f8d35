-- How the steps of `solve` come to its reply.
use Rattle.std.proofs.Common.{◌≡◌, ℕ, List, Option, None, Some, IfSome, IfOk, Result, Ok, Err, MatchResult, refl, sym, ◌∙◌, ap, subst}
use Rattle.lop_tool.specs.Names.{World, NamedFile, with_finished, with_written, CoreFields, certificate_text, Two, Solve}
use Rattle.lop_tool.specs.Names.{Format, Instance, Input, Solution}
use Rattle.lop_tool.specs.{Status.done_status, Told.files_of, Told.at_rest, Told.with_file, Told.LeavesAll}
use Rattle.lop_tool.specs.{Input.input_named, Search.found_of, Search.IsSearchOf, Certificate.HasBegun}
use Rattle.lop_tool.specs.{Certificate.WritesCertificate, Certificate.IsCertificateFile, Certificate.LeavesCertificate}
use Rattle.lop_tool.specs.{Solve.SolvesInstance, Solve.solution_text, Solve.solution_optimal, Steps.RefusesFirst}
use Rattle.lop_tool.specs.{Steps.NoMore, Reply.IsAccepted, Reply.done, Reply.IsRight, Ended.LeavesFile}
use Rattle.lop_tool.proofs.Stops.{told_files, told_map}

-- an accepted file is all that `solve` reads
solve_accepted : (format : Format) (file : List ℕ) (workers nodes : ℕ) (cert : Option (List ℕ)) (input : Instance) (files : List NamedFile) → input_named format files file ≡ Some (Ok input) → IsAccepted (Solve format file workers nodes cert) files
solve_accepted format file workers nodes cert input files is = record { unrefused = λ refusal refused. subst (λ o. RefusesFirst o Input NoMore refusal) is refused; unrejected = λ rejection wrong. wrong }

pub solves_right : (format : Format) (file : List ℕ) (workers nodes : ℕ) (cert : Option (List ℕ)) (input : Instance) (old : Option World) (x : Solution) → IfSome old (λ w. input_named format w.files file ≡ Some (Ok input)) → SolvesInstance input nodes cert x
    → IsRight (files_of old) (Some (Solve format file workers nodes cert)) (done_status (solution_optimal x)) (solution_text x) (LeavesCertificate x.cert x.core)
solves_right format file workers nodes cert input old x read solves = λ left leaves.
    let told : IfSome (files_of old) (λ files. input_named format files file ≡ Some (Ok input)) = told_files (λ files. input_named format files file ≡ Some (Ok input)) old read in
    done (solution_optimal x) (told_map (λ files. input_named format files file ≡ Some (Ok input)) (IsAccepted (Solve format file workers nodes cert)) (files_of old) (solve_accepted format file workers nodes cert input) told) (record {
      input = x.input;
      accepted_file = subst (λ (i : Instance). IfSome (files_of old) (λ files. input_named format files file ≡ Some (Ok i))) (sym solves.input_is) told;
      found = found_of x.core;
      core = x.core;
      search = subst (λ (i : Instance). IsSearchOf i.weights nodes (found_of x.core) x.core) (sym solves.input_is) solves.search;
      optimal_is = refl;
      text_is = refl;
      left_is = subst (λ (n : Option (List ℕ)). LeavesCertificate n x.core left) solves.cert_is leaves;
    })

pub solve_right : {E : Type 0} (format : Format) (file : List ℕ) (workers nodes : ℕ) (cert : Option (List ℕ)) (input : Instance) (old : Option World) (r : Result Solution E) → IfSome old (λ w. input_named format w.files file ≡ Some (Ok input)) → IfOk r (SolvesInstance input nodes cert)
    → IfOk r (λ x. IsRight (files_of old) (Some (Solve format file workers nodes cert)) (done_status (solution_optimal x)) (solution_text x) (LeavesCertificate x.cert x.core))
solve_right format file workers nodes cert input old (Ok x) read solves = solves_right format file workers nodes cert input old x read solves
solve_right format file workers nodes cert input old (Err e) read solves = tt

-- the begun file, with its certificate
certificate_file : (name : List ℕ) (core : CoreFields) (old new : Option World) → HasBegun (Some name) old → WritesCertificate core old new → (left : Option NamedFile) × IsCertificateFile name core left × (at_rest new ≡ with_file left (at_rest old))
certificate_file name core old new begun writes = (Some made, record { certificate = writes.certificate; true_of = writes.true_of; file_is = refl }, ap at_rest writes.finished ∙ finished_file old begun)
  where
    made : NamedFile
    made = record { name = name; bytes = certificate_text Two writes.certificate }

    finished_file : (told : Option World) → HasBegun (Some name) told → at_rest (with_finished (with_written (certificate_text Two writes.certificate) told)) ≡ with_file (Some (record { name = name; bytes = certificate_text Two writes.certificate })) (at_rest told)
    finished_file None begun = refl
    finished_file (Some w) begun = ap (λ (m : Option NamedFile). at_rest (with_finished (with_written (certificate_text Two writes.certificate) (Some (record w { made = m }))))) begun

certificate_under : {E : Type 0} (name : List ℕ) (core : CoreFields) (old new : Option World) (r : Result (Unit {0}) E) → HasBegun (Some name) old → MatchResult r (λ _. WritesCertificate core old new) (λ _. LeavesAll old new) → LeavesFile (IsCertificateFile name core) old new r
certificate_under name core old new (Ok _) begun writes = certificate_file name core old new begun writes
certificate_under name core old new (Err e) begun leaves = leaves

pub certificate_left : {E : Type 0} (cert : Option (List ℕ)) (name : List ℕ) (core : CoreFields) (old new : Option World) (r : Result (Unit {0}) E) → cert ≡ Some name → HasBegun cert old → MatchResult r (λ _. WritesCertificate core old new) (λ _. LeavesAll old new)
    → LeavesFile (LeavesCertificate cert core) old new r
certificate_left cert name core old new r is begun writes =
    subst (λ (c : Option (List ℕ)). LeavesFile (LeavesCertificate c core) old new r) (sym is) (certificate_under name core old new r (subst (λ (c : Option (List ℕ)). HasBegun c old) is begun) writes)
