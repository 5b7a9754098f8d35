use Rattle.lop_tool.proofs.SearchedLemmas.{climbed_from}
use Rattle.lop_tool.proofs.search.first_order.Goals as goal

pub returns-clause-climbed : goal.returns-clause-climbed
returns-clause-climbed c = climbed_from _ _ _ c.start_order.ensures.order c.climb-climbed.ensures.climbed
