use Rattle.lop_check.proofs.Walk.{starts}
use Rattle.lop_check.proofs.Exact.{ended}
use Rattle.lop_check.proofs.checker.check.Goals as goal

pub walk-ending-requires-clause-reading : goal.walk-ending-requires-clause-reading
walk-ending-requires-clause-reading g c = starts _ c.requires.opened c.start.ensures.lines c.start.ensures.number

pub returns-clause-answer : goal.returns-clause-answer
returns-clause-answer g c = (ended c.args.weights.now _ _ c.walk-ending.result c.verdict_of.result c.n.ensures.weights c.start.ensures.lines c.start.ensures.number c.walk-ending.ensures.reads c.verdict_of.ensures).answered_is.answer

pub returns-clause-exact : goal.returns-clause-exact
returns-clause-exact g c = (ended c.args.weights.now _ _ c.walk-ending.result c.verdict_of.result c.n.ensures.weights c.start.ensures.lines c.start.ensures.number c.walk-ending.ensures.reads c.verdict_of.ensures).answered_is.exact_is

pub returns-clause-bounded : goal.returns-clause-bounded
returns-clause-bounded g c = (ended c.args.weights.now _ _ c.walk-ending.result c.verdict_of.result c.n.ensures.weights c.start.ensures.lines c.start.ensures.number c.walk-ending.ensures.reads c.verdict_of.ensures).answered_is.bounded

pub returns-clause-world : goal.returns-clause-world
returns-clause-world g c = (ended c.args.weights.now _ _ c.walk-ending.result c.verdict_of.result c.n.ensures.weights c.start.ensures.lines c.start.ensures.number c.walk-ending.ensures.reads c.verdict_of.ensures).world

pub returns-clause-later : goal.returns-clause-later
returns-clause-later g c = (ended c.args.weights.now _ _ c.walk-ending.result c.verdict_of.result c.n.ensures.weights c.start.ensures.lines c.start.ensures.number c.walk-ending.ensures.reads c.verdict_of.ensures).later

pub returns-clause-cause : goal.returns-clause-cause
returns-clause-cause g c = (ended c.args.weights.now _ _ c.walk-ending.result c.verdict_of.result c.n.ensures.weights c.start.ensures.lines c.start.ensures.number c.walk-ending.ensures.reads c.verdict_of.ensures).cause
