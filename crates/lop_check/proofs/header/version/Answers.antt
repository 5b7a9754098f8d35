use Rattle.std.proofs.Common.{◌+◌, ap, sym, ◌∙◌}
use Rattle.lop_model.specs.Closing.{closed}
use Rattle.lop_certtext.specs.declared.version.CertVersion.{CertVersion}
use Rattle.lop_certtext.specs.Answer.{version_of, objects_step}
use Rattle.lop_check.proofs.Walk.{exits, passes}
use Rattle.lop_check.proofs.Steps.{version_next}
use Rattle.lop_check.proofs.header.version.Goals as goal

pub returns-in_err-expect-clause-stops : goal.returns-in_err-expect-clause-stops
returns-in_err-expect-clause-stops g c = exits _ _ _ c.from_residual.ensures.1 (λ C. (c.in_err-expect.ensures.stops (version_next C)))

pub returns-clause-goes : goal.returns-clause-goes
returns-clause-goes g c C =
    let k = c.expect.new.self.number in
    passes _ _ _ _ _ (λ lines. ap (λ (v : CertVersion). objects_step closed C v (k + 1) lines) (sym (c.version_of.ensures ∙ ap version_of c.numbers.ensures))) ((c.in_ok-expect.ensures.goes (version_next C)))
