use Rattle.lop_tool.proofs.CheckLemmas.{answers_opened, stops_opened}
use Rattle.lop_tool.proofs.checking.check_named.Goals as goal

pub returns-in-Ok-open_file-clause-answer : goal.returns-in-Ok-open_file-clause-answer
returns-in-Ok-open_file-clause-answer g c = answers_opened _ _ _ _ _ c.in-Ok-open_file.ensures.effect.0 c.in-Ok-open_file.ensures.effect.1 c.check_opened.ensures.answer

pub returns-in-Ok-open_file-clause-stop : goal.returns-in-Ok-open_file-clause-stop
returns-in-Ok-open_file-clause-stop g c = stops_opened _ _ _ _ _ _ _ _ c.in-Ok-open_file.ensures.effect.0 c.in-Ok-open_file.ensures.effect.1 c.in-Ok-open_file.ensures.later c.check_opened.ensures.stop
