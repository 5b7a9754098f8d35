use Rattle.std.proofs.Common.{arith}
use Rattle.lop_core.specs.contracts.search.Core.{the_view}
use Rattle.lop_core.proofs.CoreLemmas.{core_nodes}
use Rattle.lop_core.proofs.NodeCount.{core_nodes_factorial}
use Rattle.lop_core.proofs.DoneNodes.{evaluated_nodes}
use Rattle.lop_core.proofs.search.Core.nodes.Goals as goal

pub overflow_cast-result : goal.overflow_cast-result
overflow_cast-result c = omega (arith, core_nodes (the_view c.self.inside) c.self.invariant.0, c.self.invariant.2.within_limit, c.len.ensures)

pub returns-clause-evaluated : goal.returns-clause-evaluated
returns-clause-evaluated c = rw (← c.self.view_is) (omega (arith, evaluated_nodes (the_view c.self.inside) c.self.invariant.0, c.len.ensures))

pub returns-clause-at_most : goal.returns-clause-at_most
returns-clause-at_most c = rw (← c.self.view_is) (omega (arith, core_nodes_factorial (the_view c.self.inside) c.self.invariant.0, c.len.ensures))

pub returns-clause-within_budget : goal.returns-clause-within_budget
returns-clause-within_budget c = rw (← c.self.view_is) (omega (arith, core_nodes (the_view c.self.inside) c.self.invariant.0, c.len.ensures))
