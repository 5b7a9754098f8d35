use Rattle.lop_core.proofs.CoreLemmas.{core_covered, core_out, core_counted}
use Rattle.lop_core.proofs.Workers.{core_none_out}
use Rattle.lop_core.proofs.search.Core.journal.Goals as goal

pub returns-clause-cover : goal.returns-clause-cover
returns-clause-cover c = rw (← c.self.view_is) (core_covered _ c.self.invariant.0)

pub returns-clause-out : goal.returns-clause-out
returns-clause-out c = rw (← c.self.view_is) (λ w n. core_out _ w n c.self.invariant.0)

pub returns-clause-counts : goal.returns-clause-counts
returns-clause-counts c = rw (← c.self.view_is) (core_counted _ c.self.invariant.0)

pub returns-clause-none_out : goal.returns-clause-none_out
returns-clause-none_out c = rw (← c.self.view_is) (core_none_out _ c.self.invariant.0)
