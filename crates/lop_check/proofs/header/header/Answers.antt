use Rattle.std.proofs.Common.{◌+◌, ◌∙◌, ℤ, ap, sym, rules, w64, to_z, of_z, FitsSigned}
use Rattle.std.proofs.lemmas.Int.{to_z-of_z}
use Rattle.lop_model.specs.Closing.{closed}
use Rattle.lop_certtext.specs.Answer.{value_step, cuts_step}
use Rattle.lop_check.proofs.Walk.{left_off, passes, then_on, then_ends}
use Rattle.lop_check.proofs.header.header.Goals as goal

pub returns-in_err-version : goal.returns-in_err-version
returns-in_err-version g c =
    left_off _ _ _ _ _ _ c.from_residual.ensures.1
    (((c.in_err-version.ensures.stops c.args.weights.now)))

pub objects-requires : goal.objects-requires
objects-requires g c = ((c.in_ok-version.ensures.goes c.args.weights.now)).reading

pub returns-in_err-objects : goal.returns-in_err-objects
returns-in_err-objects g c =
    left_off _ _ _ _ _ _ c.from_residual-in_err-objects.ensures.1
    (then_ends _ _ _ _ _ _ ((c.in_ok-version.ensures.goes c.args.weights.now)) (c.in_err-objects.ensures.stops c.in_ok-version.version))

pub order-requires : goal.order-requires
order-requires g c = (c.in_ok-objects.ensures.goes c.in_ok-version.version).reading

pub returns-in_err-found : goal.returns-in_err-found
returns-in_err-found g c =
    left_off _ _ _ _ _ _ c.from_residual-in_err-found.ensures.1
    (then_ends _ _ _ _ _ _ (then_on _ _ _ _ _ _ ((c.in_ok-version.ensures.goes c.args.weights.now)) (c.in_ok-objects.ensures.goes c.in_ok-version.version)) (c.in_err-found.ensures.stops c.in_ok-version.version))

pub value-requires : goal.value-requires
value-requires g c = (c.in_ok-found.ensures.goes c.in_ok-version.version).reading

pub returns-in_err-value : goal.returns-in_err-value
returns-in_err-value g c =
    let fits : FitsSigned w64 c.in_ok-found.found = search rules in
    let found = passes _ _ _ _ _ (λ lines. ap (λ (x : ℤ). value_step closed c.args.weights.now c.in_ok-version.version x (c.order.new.reading.number + 1) lines) (sym (to_z-of_z w64 c.in_ok-found.found fits))) (c.in_ok-found.ensures.goes c.in_ok-version.version) in
    left_off _ _ _ _ _ _ c.from_residual-in_err-value.ensures.1
    (then_ends _ _ _ _ _ _ (then_on _ _ _ _ _ _ (then_on _ _ _ _ _ _ ((c.in_ok-version.ensures.goes c.args.weights.now)) (c.in_ok-objects.ensures.goes c.in_ok-version.version)) found) ((c.in_err-value.ensures.stops c.args.weights.now c.in_ok-version.version)))

pub bound-requires : goal.bound-requires
bound-requires g c = ((c.in_ok-value.ensures.goes c.args.weights.now c.in_ok-version.version)).reading

pub returns-in_err-bound : goal.returns-in_err-bound
returns-in_err-bound g c =
    let fits : FitsSigned w64 c.in_ok-found.found = search rules in
    let found = passes _ _ _ _ _ (λ lines. ap (λ (x : ℤ). value_step closed c.args.weights.now c.in_ok-version.version x (c.order.new.reading.number + 1) lines) (sym (to_z-of_z w64 c.in_ok-found.found fits))) (c.in_ok-found.ensures.goes c.in_ok-version.version) in
    left_off _ _ _ _ _ _ c.from_residual-in_err-bound.ensures.1
    (then_ends _ _ _ _ _ _ (then_on _ _ _ _ _ _ (then_on _ _ _ _ _ _ (then_on _ _ _ _ _ _ ((c.in_ok-version.ensures.goes c.args.weights.now)) (c.in_ok-objects.ensures.goes c.in_ok-version.version)) found) ((c.in_ok-value.ensures.goes c.args.weights.now c.in_ok-version.version)))
    ((c.in_err-bound.ensures.stops c.args.weights.now c.in_ok-version.version _)))

pub returns : goal.returns
returns g c =
    let fits : FitsSigned w64 c.in_ok-found.found = search rules in
    let found = passes _ _ _ _ _ (λ lines. ap (λ (x : ℤ). value_step closed c.args.weights.now c.in_ok-version.version x (c.order.new.reading.number + 1) lines) (sym (to_z-of_z w64 c.in_ok-found.found fits))) (c.in_ok-found.ensures.goes c.in_ok-version.version) in
    let value_fits : FitsSigned w64 c.in_ok-value.value = search rules in
    let bound_fits : FitsSigned w64 c.in_ok-bound.bound = search rules in
    passes _ _ _ _ _
    (λ lines. ap (λ (x : ℤ). cuts_step closed c.args.weights.now c.in_ok-version.version x c.in_ok-bound.bound (c.bound.new.reading.number + 1) lines) (sym (to_z-of_z w64 c.in_ok-value.value value_fits))
    ∙ ap (λ (x : ℤ). cuts_step closed c.args.weights.now c.in_ok-version.version (to_z w64 (of_z w64 c.in_ok-value.value)) x (c.bound.new.reading.number + 1) lines) (sym (to_z-of_z w64 c.in_ok-bound.bound bound_fits)))
    (then_on _ _ _ _ _ _ (then_on _ _ _ _ _ _ (then_on _ _ _ _ _ _ (then_on _ _ _ _ _ _ ((c.in_ok-version.ensures.goes c.args.weights.now)) (c.in_ok-objects.ensures.goes c.in_ok-version.version)) found) ((c.in_ok-value.ensures.goes c.args.weights.now c.in_ok-version.version)))
    ((c.in_ok-bound.ensures.goes c.args.weights.now c.in_ok-version.version _)))
