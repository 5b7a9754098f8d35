use Rattle.lop_model.specs.Fixings.{pair_then}
use Rattle.lop_ascent.proofs.point.value_of.Goals as goal

pub returns-in-Before-clause-after : goal.returns-in-Before-clause-after
returns-in-Before-clause-after c = λ t. absurd (c.in-Before.ensures.partial_order.no_cycle c.args.j (pair_then t c.in-Before.ensures.decision))

pub returns-in-After-clause-before : goal.returns-in-After-clause-before
returns-in-After-clause-before c = λ t. absurd (c.in-After.ensures.partial_order.no_cycle c.args.i (pair_then t c.in-After.ensures.decision))
