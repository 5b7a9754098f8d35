use Rattle.std.proofs.Common.{rules, arith, ap, length, FitsSigned}
use Rattle.std.proofs.lemmas.Int.{to_z-of_z}
use mir.Syntax.{w128}
use Rattle.lop_core.specs.contracts.search.Core.{the_view}
use Rattle.lop_core.specs.Candidates.{candidates_of}
use Rattle.lop_core.proofs.CoreLemmas.{core_counted}
use Rattle.lop_core.proofs.ReadyCount.{ready_total}
use Rattle.lop_core.proofs.OutLemmas.{out_total, each_inside, live_total}
use Rattle.lop_core.proofs.search.Core.live.Goals as goal

pub overflow_cast-idle : goal.overflow_cast-idle
overflow_cast-idle c =
    let h = core_counted (the_view c.self.inside) c.self.invariant.0 in
    omega (arith, h.within, c.self.invariant.2.within_limit, c.self.invariant.6.few, c.len-idle.ensures)

pub count_above-requires-clause-inside : goal.count_above-requires-clause-inside
count_above-requires-clause-inside c = rw (c.deref.ensures.value, c.deref-2.ensures.value) (each_inside c.self.inside.nodes.items _ c.self.inside.outs.items _ c.self.invariant.3)

pub count_above-requires-clause-few : goal.count_above-requires-clause-few
count_above-requires-clause-few c =
    let h = core_counted (the_view c.self.inside) c.self.invariant.0 in
    omega (arith, h.within, c.self.invariant.2.within_limit, out_total c.self.inside.nodes.items _ c.self.inside.outs.items _ c.self.invariant.3, ap length c.deref-2.ensures.value)

pub overflow_add-result : goal.overflow_add-result
overflow_add-result c =
    let h = core_counted (the_view c.self.inside) c.self.invariant.0 in
    omega (arith, h.within, c.self.invariant.2.within_limit, c.self.invariant.6.few, c.len-idle.ensures, out_total c.self.inside.nodes.items _ c.self.inside.outs.items _ c.self.invariant.3, ap length c.deref-2.ensures.value, c.count_above.ensures.few)

pub returns : goal.returns
returns c =
    let f : FitsSigned w128 c.self.inside.best = search rules in
    let above = rw (c.deref.ensures.value, c.deref-2.ensures.value, to_z-of_z w128 c.self.inside.best f) at c.count_above.ensures.value in
    let ready = ready_total c.self.inside.nodes.items c.self.inside.best (candidates_of c.self.inside.candidates) c.self.invariant.6.kept in
    rw (← c.self.view_is) (omega (arith, c.len-idle.ensures, c.self.inside.candidates.heap.data.ok.0, ready, above, live_total c.self.inside.nodes.items _ c.self.inside.outs.items _ c.self.invariant.3 c.self.inside.best))
