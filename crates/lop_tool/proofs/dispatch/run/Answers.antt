use Rattle.lop_tool.proofs.Promises.{solves, checks, values, generates, usage, rejects, rejection_line, usage_line, refuses, refusal_line_of, faults, left_by_fault, left_by_want, completes}
use Rattle.lop_tool.proofs.dispatch.run.Goals as goal

pub returns-clause-solves : goal.returns-clause-solves
returns-clause-solves g c = solves _ _ _ _ _ _ (rw (← c.number.ensures) at c.carry_out.ensures.ended)

pub returns-clause-checks : goal.returns-clause-checks
returns-clause-checks g c = checks _ _ _ _ _ _ (rw (← c.number.ensures) at c.carry_out.ensures.ended)

pub returns-clause-values : goal.returns-clause-values
returns-clause-values g c = values _ _ _ _ _ _ (rw (← c.number.ensures) at c.carry_out.ensures.ended)

pub returns-clause-generates : goal.returns-clause-generates
returns-clause-generates g c = generates _ _ _ _ _ _ (rw (← c.number.ensures) at c.carry_out.ensures.ended)

pub returns-clause-rejection_line : goal.returns-clause-rejection_line
returns-clause-rejection_line g c = rejection_line _ _ _ _ _ _ (rw (← c.number.ensures) at c.carry_out.ensures.ended)

pub returns-clause-usage_line : goal.returns-clause-usage_line
returns-clause-usage_line g c = usage_line _ _ _ _ _ _ (rw (← c.number.ensures) at c.carry_out.ensures.ended)

pub returns-clause-refusal_line : goal.returns-clause-refusal_line
returns-clause-refusal_line g c = refusal_line_of _ _ _ _ _ _ (rw (← c.number.ensures) at c.carry_out.ensures.ended)

pub returns-clause-usage : goal.returns-clause-usage
returns-clause-usage g c = usage _ _ _ _ _ _ (rw (← c.number.ensures) at c.carry_out.ensures.ended)

pub returns-clause-faults : goal.returns-clause-faults
returns-clause-faults g c = faults _ _ _ _ _ _ (rw (← c.number.ensures) at c.carry_out.ensures.ended)

pub returns-clause-cut_off : goal.returns-clause-cut_off
returns-clause-cut_off g c = left_by_fault _ _ _ _ _ _ (rw (← c.number.ensures) at c.carry_out.ensures.ended)

pub returns-clause-memory : goal.returns-clause-memory
returns-clause-memory g c = left_by_want _ _ _ _ _ _ (rw (← c.number.ensures) at c.carry_out.ensures.ended)

pub returns-clause-rejects : goal.returns-clause-rejects
returns-clause-rejects g c = rejects _ _ _ _ _ _ (rw (← c.number.ensures) at c.carry_out.ensures.ended)

pub returns-clause-refuses : goal.returns-clause-refuses
returns-clause-refuses g c = refuses _ _ _ _ _ _ (rw (← c.number.ensures) at c.carry_out.ensures.ended)

pub returns-clause-completes : goal.returns-clause-completes
returns-clause-completes g c = completes _ _ _ _ _ _ (rw (← c.number.ensures) at c.carry_out.ensures.ended)
