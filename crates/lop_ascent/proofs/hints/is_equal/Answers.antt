use Rattle.std.proofs.Common.{◌≡◌, true}
use Rattle.lop_ascent.proofs.hints.is_equal.Goals as goal

pub returns-clause-equal : goal.returns-clause-equal
returns-clause-equal c = λ t. c.eq.ensures.same.0 t

pub returns-clause-unequal : goal.returns-clause-unequal
returns-clause-unequal c = λ f e. let t : c.eq.result ≡ true = c.eq.ensures.same.1 e in cc
