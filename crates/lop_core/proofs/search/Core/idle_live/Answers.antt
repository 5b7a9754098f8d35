use Rattle.std.proofs.Common.{arith}
use Rattle.lop_core.specs.contracts.search.Core.{the_view}
use Rattle.lop_core.specs.Candidates.{candidates_of}
use Rattle.lop_core.proofs.CoreLemmas.{core_counted}
use Rattle.lop_core.proofs.ReadyCount.{ready_total}
use Rattle.lop_core.proofs.search.Core.idle_live.Goals as goal

pub overflow_cast-result : goal.overflow_cast-result
overflow_cast-result c =
    let h = core_counted (the_view c.self.inside) c.self.invariant.0 in
    omega (arith, h.within, c.self.invariant.2.within_limit, c.self.invariant.6.few, c.len.ensures)

pub returns : goal.returns
returns c =
    rw (← c.self.view_is)
    (omega (arith, c.len.ensures, c.self.inside.candidates.heap.data.ok.0, ready_total c.self.inside.nodes.items c.self.inside.best (candidates_of c.self.inside.candidates) c.self.invariant.6.kept))
