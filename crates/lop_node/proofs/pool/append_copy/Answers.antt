use Rattle.lop_node.proofs.RoundLemmas.{fit_one_more}
use Rattle.lop_node.proofs.pool.append_copy.Goals as goal

pub returns-clause-fit : goal.returns-clause-fit
returns-clause-fit c = λ n all fits. fit_one_more n c.args.list.now c.put.new.self c.args.cut.now c.copy.result _ c.put.ensures c.copy.ensures all fits
