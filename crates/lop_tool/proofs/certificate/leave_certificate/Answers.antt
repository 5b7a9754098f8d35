use Rattle.lop_tool.proofs.SolveLemmas.{certificate_left}
use Rattle.lop_tool.proofs.certificate.leave_certificate.Goals as goal

pub returns-in-Some-clause-effect : goal.returns-in-Some-clause-effect
returns-in-Some-clause-effect g c = certificate_left _ _ _ _ _ _ c.in-Some.is c.requires.begun c.finish_certificate.ensures.effect
