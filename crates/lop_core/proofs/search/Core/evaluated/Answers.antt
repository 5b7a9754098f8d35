use Rattle.std.proofs.Common.{arith}
use Rattle.lop_core.proofs.CoreLemmas.{core_counted}
use Rattle.lop_core.proofs.search.Core.evaluated.Goals as goal

pub returns-clause-within_budget : goal.returns-clause-within_budget
returns-clause-within_budget c = let h = core_counted _ c.self.invariant.0 in rw (← c.self.view_is) (omega (arith, h.within))
