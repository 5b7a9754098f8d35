use Rattle.std.proofs.Common.{◌≡◌, ◌*◌, ℕ, List, [], length, replicate, ap, ◌∙◌, arith}
use Rattle.std.proofs.lemmas.List.{get_or-replicate, length-replicate}
use Rattle.lop_model.specs.declared.pair.Pair.{Pair}
use Rattle.lop_check.proofs.TrailLemmas.{fixed-none}
use Rattle.lop_check.specs.Trail.{is_fixed}
use Rattle.lop_model.specs.Related.{pairs_of}
use Rattle.lop_check.proofs.trail.Trail.new.Goals as goal

pub returns : goal.returns
returns c =
    let n = c.args.n in
    let made : c.in_ok-empty.field-0.items ≡ replicate {A = ℕ} (n * n) 0 = c.in_ok-empty.ensures in
    let fixed = fixed-none n (replicate {A = ℕ} (n * n) 0) (length-replicate (n * n) 0) (λ k l. get_or-replicate (n * n) k 0 0 (let e : length (replicate {A = ℕ} (n * n) 0) ≡ n * n = length-replicate (n * n) 0 in omega (arith, e))) in
    ap (λ (t : List ℕ). record { size = n; path = c.in_ok-with_capacity.field-0.items; fixed = pairs_of n (is_fixed t n) }) made
    ∙ ap (λ (F : List Pair). record { size = n; path = c.in_ok-with_capacity.field-0.items; fixed = F }) fixed
    ∙ ap (λ (F : List Pair). record { size = n; path = F; fixed = [] }) c.in_ok-with_capacity.ensures.items
