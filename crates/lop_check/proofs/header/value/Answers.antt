use Rattle.std.proofs.Common.{◌≡◌, ◌+◌, cond, Bool, ℤ, sym, ◌∙◌, ap, rules, to_z, of_z, w64, FitsSigned}
use Rattle.std.proofs.lemmas.Int.{to_z-of_z}
use Rattle.lop_model.specs.Closing.{closed}
use Rattle.lop_certtext.specs.declared.reason.Reason.TheVariants as reason
use Rattle.lop_certtext.specs.Answer.{rejected, only_number, bound_step}
use Rattle.lop_check.specs.declared.verdict.Verdict.TheVariants as verdict
use Rattle.lop_check.proofs.Walk.{exits, passes, fails, same_both, not_both}
use Rattle.lop_check.proofs.Steps.{value_next}
use Rattle.lop_check.proofs.header.value.Goals as goal

pub returns-in_err-expect-clause-stops : goal.returns-in_err-expect-clause-stops
returns-in_err-expect-clause-stops g c = exits _ _ _ c.from_residual.ensures.1 (λ C version. (c.in_err-expect.ensures.stops (value_next C version c.args.found)))

pub returns-then-stated-found-clause-goes : goal.returns-then-stated-found-clause-goes
returns-then-stated-found-clause-goes g c C version =
    let ns = c.expect.new.self.numbers in
    let k = c.expect.new.self.number in
    let found = c.args.found in
    let number_fits : FitsSigned w64 c.only_number-stated.result = search rules in
    let found_fits : FitsSigned w64 c.args.found = c.ranges.found in
    let same : c.only_number-stated.result ≡ found = sym (to_z-of_z w64 c.only_number-stated.result number_fits) ∙ ap (to_z w64) c.if-stated-found.true ∙ to_z-of_z w64 found found_fits in
    let weighs : only_number ns ≡ found = sym c.only_number-stated.ensures ∙ same in
    passes _ _ _ _ _
    (λ lines. ap (λ (t : Bool). cond t (bound_step closed C version (only_number ns) (k + 1) lines) (rejected k (reason.Value (only_number ns) found))) (same_both _ _ weighs)
    ∙ ap (λ (value : ℤ). bound_step closed C version value (k + 1) lines) (sym (to_z-of_z w64 c.only_number-stated.result number_fits ∙ c.only_number-stated.ensures)))
    ((c.in_ok-expect.ensures.goes (value_next C version found)))

pub returns-else-stated-found-clause-stops : goal.returns-else-stated-found-clause-stops
returns-else-stated-found-clause-stops g c C version =
    let ns = c.expect.new.self.numbers in
    let k = c.expect.new.self.number in
    let found = c.args.found in
    let number_fits : FitsSigned w64 c.only_number-stated.result = search rules in
    let found_fits : FitsSigned w64 c.args.found = c.ranges.found in
    let stated : to_z w64 (of_z w64 c.only_number-stated.result) ≡ only_number ns = to_z-of_z w64 c.only_number-stated.result number_fits ∙ c.only_number-stated.ensures in
    fails _ _ _ _ _ k (reason.Value (only_number ns) found)
    (c.rejected.ensures ∙ ap (λ (x : ℤ). verdict.Rejected k (reason.Value x (to_z w64 (of_z w64 found)))) stated ∙ ap (λ (x : ℤ). verdict.Rejected k (reason.Value (only_number ns) x)) (to_z-of_z w64 found found_fits))
    (λ lines. ap (λ (t : Bool). cond t (bound_step closed C version (only_number ns) (k + 1) lines) (rejected k (reason.Value (only_number ns) found))) (not_both _ _ (λ e. c.if-stated-found.false (ap (of_z w64) (c.only_number-stated.ensures ∙ e)))))
    ((c.in_ok-expect.ensures.goes (value_next C version found)))
