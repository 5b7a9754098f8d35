use Rattle.std.proofs.Common.{ℕ, List, Err, ◌∙◌, ap, subst, arith}
use Rattle.std.proofs.lemmas.Result.{err_from_is_err_and}
use Rattle.lop_cuts.specs.Kind.{IsFence}
use Rattle.lop_cuts.specs.Fault.{AreObjects, IsFenceCount, IsObjectFault}
use Rattle.lop_cuts.proofs.FaultUniqueLemmas.{fence_fault-from_objects, fence_fault_unique, fence_fault_excludes}
use Rattle.lop_cuts.proofs.cut.Cut.fence.Goals as goal

pub returns-in_err-check_objects-clause-exact : goal.returns-in_err-check_objects-clause-exact
returns-in_err-check_objects-clause-exact c =
    let p = err_from_is_err_and c.from_residual.result c.from_residual.ensures.1 in
    let u = c.args.u.now in
    let w = c.args.w.now in
    let count : IsFenceCount u w = record { same_length = omega arith; at_least = omega arith; at_most = omega arith } in
    let P = λ (xs : List ℕ). IsObjectFault c.args.n xs c.in_err-check_objects.field-0.0 in
    let here = fence_fault-from_objects c.args.n u w _ count (subst P (c.as_slice.ensures.value ∙ c.joined.ensures) c.in_err-check_objects.ensures.err) in
    λ e h. rw (p.1, p.2) (ap (λ x. Err x) (fence_fault_unique c.args.n u w _ e here h))

pub returns-in_err-check_objects-clause-accepts : goal.returns-in_err-check_objects-clause-accepts
returns-in_err-check_objects-clause-accepts c =
    let u = c.args.u.now in
    let w = c.args.w.now in
    let count : IsFenceCount u w = record { same_length = omega arith; at_least = omega arith; at_most = omega arith } in
    let P = λ (xs : List ℕ). IsObjectFault c.args.n xs c.in_err-check_objects.field-0.0 in
    let here = fence_fault-from_objects c.args.n u w _ count (subst P (c.as_slice.ensures.value ∙ c.joined.ensures) c.in_err-check_objects.ensures.err) in
    λ right fits. absurd (fence_fault_excludes c.args.n u w _ here right fits)

pub returns-clause-exact : goal.returns-clause-exact
returns-clause-exact c =
    let u = c.args.u.now in
    let w = c.args.w.now in
    let P = λ (xs : List ℕ). AreObjects c.args.n xs in
    let objects = subst P (c.as_slice.ensures.value ∙ c.joined.ensures) c.in_ok-check_objects.ensures.ok in
    let right : IsFence u w = record { same_length = omega arith; at_least = omega arith; at_most = omega arith; distinct = objects.distinct } in
    λ e h. absurd (fence_fault_excludes c.args.n u w e h right objects.in_range)
