-- How the steps of `gen` come to its reply.
use Rattle.std.proofs.Common.{◌≡◌, ℕ, List, Option, None, Some, IfSome, refl, ◌∙◌, ap}
use Rattle.lop_tool.specs.Names.{NamedFile, Matrix, Gen, gen_text, Generation}
use Rattle.lop_tool.specs.{Status.done_status, Search.found_of, Gen.IsGenerated, Gen.generation_text}
use Rattle.lop_tool.specs.{Gen.generation_optimal, Reply.IsAccepted, Reply.done, Reply.IsRight, Ended.NoFile}
use Rattle.lop_tool.proofs.Ends.{right_alone}

gen_accepted : (seed n : ℕ) (told : Option (List NamedFile)) → IfSome told (IsAccepted (Gen seed n))
gen_accepted seed n None = tt
gen_accepted seed n (Some files) = record { unrefused = λ refusal wrong. wrong; unrejected = λ rejection wrong. wrong }

pub gen_right : (seed n : ℕ) (told : Option (List NamedFile)) (x : Generation) → IsGenerated seed n x → IsRight told (Some (Gen seed n)) (done_status (generation_optimal x)) (generation_text x) NoFile
gen_right seed n told x g =
    let seed_is : generation_text x ≡ gen_text seed x.core.problem.weights 0 (found_of x.core).value (found_of x.core).bound (found_of x.core).nodes = ap (λ (k : ℕ). gen_text k x.core.problem.weights 0 (found_of x.core).value (found_of x.core).bound (found_of x.core).nodes) g.seed_is in
    let text = seed_is ∙ ap (λ (C : Matrix). gen_text seed C 0 (found_of x.core).value (found_of x.core).bound (found_of x.core).nodes) g.search.weights_are in
    right_alone told (Some (Gen seed n)) (done_status (generation_optimal x)) (generation_text x) (done (generation_optimal x) (gen_accepted seed n told) (record { found = found_of x.core; core = x.core; search = g.search; optimal_is = refl; text_is = text; left_is = refl }))
