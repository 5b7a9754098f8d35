use Rattle.std.proofs.lemmas.List.{take_rest}
use Rattle.lop_core.proofs.cut_index.later_cuts.Goals as goal

pub returns : goal.returns
returns c = take_rest c.args.cuts.now c.args.known
