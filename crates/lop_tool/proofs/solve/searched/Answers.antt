use Rattle.lop_tool.proofs.SearchedLemmas.{IsPrintable-found}
use Rattle.lop_tool.proofs.solve.searched.Goals as goal

pub returns-clause-printable : goal.returns-clause-printable
returns-clause-printable g c = IsPrintable-found _ _ (record { input = c.args.input; core = c.run-core.result; cert = c.args.cert; names = c.args.names }) c.requires.weights c.run-core.ensures.search c.requires.of_size c.requires.decimals
