use Rattle.lop_core.specs.contracts.search.Core.{the_view}
use Rattle.std.proofs.Common.{arith, subst}
use Rattle.lop_core.specs.Core.{CoreFields}
use Rattle.lop_core.specs.Records.{HaveTermsWithin, term_room}
use Rattle.lop_core.proofs.SameRecords.{terms_within}
use Rattle.lop_core.proofs.search.Core.record_of.Goals as goal

pub returns-clause-terms : goal.returns-clause-terms
returns-clause-terms c =
    subst (λ (v : CoreFields). HaveTermsWithin v.book (term_room v.problem.budget)) c.self.view_is
    (terms_within (the_view c.self.inside).book (term_room c.self.inside.budget) c.self.invariant.4.book (omega (arith, c.self.invariant.4.within, c.self.invariant.5)))
