use Rattle.lop_check.proofs.Walk.{exits, due_next, due_on, due_fails}
use Rattle.lop_check.proofs.reading.Reading.expect.Goals as goal

pub returns-in_err-line-clause-stops : goal.returns-in_err-line-clause-stops
returns-in_err-line-clause-stops g c = exits _ _ _ c.from_residual.ensures.1 (λ next. c.in_err-line.ensures.stops (due_next c.args.due next))

pub returns-then-eq-clause-goes : goal.returns-then-eq-clause-goes
returns-then-eq-clause-goes g c next =
    let k = c.line.new.self.number in
    due_on _ _ _ k c.args.due _ c.line.new.self.numbers _ (next k) c.eq.ensures c.if-eq.true (c.in_ok-line.ensures.goes (due_next c.args.due next))

pub returns-else-eq-clause-stops : goal.returns-else-eq-clause-stops
returns-else-eq-clause-stops g c next =
    let k = c.line.new.self.number in
    rw c.rejected.ensures
    (due_fails _ _ _ k c.args.due _ c.line.new.self.numbers _ (next k) c.eq.ensures c.if-eq.false (c.in_ok-line.ensures.goes (due_next c.args.due next)))
