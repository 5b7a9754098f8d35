use Rattle.lop_preflib.proofs.GatheredLemmas.{IsGathered-other}
use Rattle.lop_preflib.proofs.gathered.Gathered.add.Goals as goal

pub returns-in-Other-clause-gathered : goal.returns-in-Other-clause-gathered
returns-in-Other-clause-gathered c = IsGathered-other c.args.line.now c.args.number c.args.self.now c.in-Other.ensures
