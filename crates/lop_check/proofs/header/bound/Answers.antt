use Rattle.std.proofs.Common.{◌+◌, ℤ, sym, ◌∙◌, ap, rules, w64, FitsSigned}
use Rattle.std.proofs.lemmas.Int.{to_z-of_z}
use Rattle.lop_model.specs.Closing.{closed}
use Rattle.lop_certtext.specs.Answer.{cuts_step}
use Rattle.lop_check.proofs.Walk.{exits, passes}
use Rattle.lop_check.proofs.Steps.{bound_next}
use Rattle.lop_check.proofs.header.bound.Goals as goal

pub returns-in_err-expect-clause-stops : goal.returns-in_err-expect-clause-stops
returns-in_err-expect-clause-stops g c = exits _ _ _ c.from_residual.ensures.1 (λ C version value. (c.in_err-expect.ensures.stops (bound_next C version value)))

pub returns-clause-goes : goal.returns-clause-goes
returns-clause-goes g c C version value =
    let ns = c.expect.new.self.numbers in
    let k = c.expect.new.self.number in
    let fits : FitsSigned w64 c.only_number.result = search rules in
    passes _ _ _ _ _ (λ lines. ap (λ (b : ℤ). cuts_step closed C version value b (k + 1) lines) (sym (to_z-of_z w64 c.only_number.result fits ∙ c.only_number.ensures))) ((c.in_ok-expect.ensures.goes (bound_next C version value)))
