use Rattle.lop_check.proofs.Walk.{left_off, then_handed}
use Rattle.lop_check.proofs.Steps.{end_next}
use Rattle.lop_check.proofs.tree.end.Goals as goal

pub returns-in_err-expect : goal.returns-in_err-expect
returns-in_err-expect g c = left_off _ _ _ _ _ _ c.from_residual.ensures.1 ((c.in_err-expect.ensures.stops (end_next c.args.claim.value c.args.claim.bound)))

pub tail-requires : goal.tail-requires
tail-requires g c = ((c.in_ok-expect.ensures.goes (end_next c.args.claim.value c.args.claim.bound))).reading

pub returns : goal.returns
returns g c = then_handed _ _ _ _ _ _ _ ((c.in_ok-expect.ensures.goes (end_next c.args.claim.value c.args.claim.bound))) (c.tail.ensures c.args.claim.value c.args.claim.bound)
