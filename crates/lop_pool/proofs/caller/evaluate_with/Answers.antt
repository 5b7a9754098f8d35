use Rattle.std.proofs.Common.{◌∙◌}
use Rattle.lop_core.proofs.Alone.{turned}
use Rattle.lop_pool.proofs.HoldingLemmas.{end_done, end_spent, never_all_out}
use Rattle.lop_pool.proofs.caller.evaluate_with.Goals as goal

pub returns-in-Done-clause-end : goal.returns-in-Done-clause-end
returns-in-Done-clause-end g c = end_done c.args.core.now c.take.new.self c.args.parcel.now.ticket c.take.new.into 0 c.in-Done.ensures.step

pub returns-in-Spent-clause-end : goal.returns-in-Spent-clause-end
returns-in-Spent-clause-end g c = end_spent c.args.core.now c.take.new.self c.args.parcel.now.ticket c.take.new.into 0 c.take.ensures.before c.requires.none_out c.in-Spent.ensures.step

pub unreachable-requires : goal.unreachable-requires
unreachable-requires g c = never_all_out c.args.core.now c.take.new.self c.args.parcel.now.ticket c.take.new.into 0 c.requires.none_out c.in-AllOut.ensures.step

pub returns-clause-none_out : goal.returns-clause-none_out
returns-clause-none_out g c =
    (turned c.args.core.now c.take.new.self c.report.new.self 0 c.take.new.into.node c.judge.new.into c.take.ensures.before c.report.ensures.after c.in-Node.ensures.step.1 c.report.ensures.step.noted).2 ∙ c.requires.none_out

pub returns-clause-more : goal.returns-clause-more
returns-clause-more g c =
    (turned c.args.core.now c.take.new.self c.report.new.self 0 c.take.new.into.node c.judge.new.into c.take.ensures.before c.report.ensures.after c.in-Node.ensures.step.1 c.report.ensures.step.noted).1
