use Rattle.lop_tool.proofs.SearchedLemmas.{solved_from}
use Rattle.lop_tool.proofs.search.Search.run.Goals as goal

pub returns : goal.returns
returns g c = rw (← c.self.view_is) (record { search = solved_from c.self.inside.core c.search-core.result.0 c.search-core.ensures.same_problem c.self.invariant.0 c.search-core.ensures.history c.search-core.ensures.finished })
