use Rattle.lop_tool.proofs.Ends.{ends_words}
use Rattle.lop_tool.proofs.dispatch.refuse_words.Goals as goal

pub returns-clause-ended : goal.returns-clause-ended
returns-clause-ended g c = ends_words _ _ _ _ _ c.deliver.ensures.delivered
