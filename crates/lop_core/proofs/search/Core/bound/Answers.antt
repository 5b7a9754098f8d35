use Rattle.std.proofs.Common.{rules, FitsSigned}
use Rattle.std.proofs.lemmas.Int.{to_z-of_z}
use mir.Syntax.{w128}
use Rattle.lop_core.specs.contracts.search.Core.{the_view}
use Rattle.lop_core.proofs.Replay.{raised-le}
use Rattle.lop_core.proofs.Workers.{bound_in_range}
use Rattle.lop_core.proofs.Monotone.{core_from_root, core_packed, core_packed_closed}
use Rattle.lop_core.proofs.Alone.{bound_closed}
use Rattle.lop_core.proofs.CoreLemmas.{core_bound}
use Rattle.lop_core.proofs.OutLemmas.{each_inside, bound_scanned}
use Rattle.lop_core.proofs.search.Core.bound.Goals as goal

pub greatest_bound-requires : goal.greatest_bound-requires
greatest_bound-requires c = rw (c.deref.ensures.value, c.deref-2.ensures.value) (each_inside c.self.inside.nodes.items _ c.self.inside.outs.items _ c.self.invariant.3)

pub returns-clause-value : goal.returns-clause-value
returns-clause-value c =
    let f : FitsSigned w128 c.top_bound-top.result = search rules in
    let g : FitsSigned w128 c.greatest_bound.result = search rules in
    let top = rw (← c.self.view_is) at c.top_bound-top.ensures in
    let e = bound_scanned (the_view c.self.inside).state _ c.self.inside.outs.items _ c.deref.result.now c.deref-2.result.now c.top_bound-top.result _ _ _ c.self.invariant.3 c.deref.ensures.value c.deref-2.ensures.value (to_z-of_z w128 c.top_bound-top.result f) (to_z-of_z w128 c.greatest_bound.result g)
    top.at_least top.greatest top.within c.greatest_bound.ensures in
    rw (← c.self.view_is) e

pub returns-clause-bounds : goal.returns-clause-bounds
returns-clause-bounds c =
    let f : FitsSigned w128 c.top_bound-top.result = search rules in
    let g : FitsSigned w128 c.greatest_bound.result = search rules in
    let top = rw (← c.self.view_is) at c.top_bound-top.ensures in
    let e = bound_scanned (the_view c.self.inside).state _ c.self.inside.outs.items _ c.deref.result.now c.deref-2.result.now c.top_bound-top.result _ _ _ c.self.invariant.3 c.deref.ensures.value c.deref-2.ensures.value (to_z-of_z w128 c.top_bound-top.result f) (to_z-of_z w128 c.greatest_bound.result g)
    top.at_least top.greatest top.within c.greatest_bound.ensures in
    rw (← c.self.view_is, e) (core_bound (the_view c.self.inside) c.self.invariant.0)

pub returns-clause-at_least_best : goal.returns-clause-at_least_best
returns-clause-at_least_best c =
    let f : FitsSigned w128 c.top_bound-top.result = search rules in
    let g : FitsSigned w128 c.greatest_bound.result = search rules in
    let top = rw (← c.self.view_is) at c.top_bound-top.ensures in
    let e = bound_scanned (the_view c.self.inside).state _ c.self.inside.outs.items _ c.deref.result.now c.deref-2.result.now c.top_bound-top.result _ _ _ c.self.invariant.3 c.deref.ensures.value c.deref-2.ensures.value (to_z-of_z w128 c.top_bound-top.result f) (to_z-of_z w128 c.greatest_bound.result g)
    top.at_least top.greatest top.within c.greatest_bound.ensures in
    rw (← c.self.view_is, e) (raised-le c.self.inside.nodes.items c.self.inside.best)

pub returns-clause-from_root : goal.returns-clause-from_root
returns-clause-from_root c =
    let f : FitsSigned w128 c.top_bound-top.result = search rules in
    let g : FitsSigned w128 c.greatest_bound.result = search rules in
    let top = rw (← c.self.view_is) at c.top_bound-top.ensures in
    let e = bound_scanned (the_view c.self.inside).state _ c.self.inside.outs.items _ c.deref.result.now c.deref-2.result.now c.top_bound-top.result _ _ _ c.self.invariant.3 c.deref.ensures.value c.deref-2.ensures.value (to_z-of_z w128 c.top_bound-top.result f) (to_z-of_z w128 c.greatest_bound.result g)
    top.at_least top.greatest top.within c.greatest_bound.ensures in
    rw (← c.self.view_is, e) (core_from_root (the_view c.self.inside) c.self.invariant.0)

pub returns-clause-packed : goal.returns-clause-packed
returns-clause-packed c =
    let f : FitsSigned w128 c.top_bound-top.result = search rules in
    let g : FitsSigned w128 c.greatest_bound.result = search rules in
    let top = rw (← c.self.view_is) at c.top_bound-top.ensures in
    let e = bound_scanned (the_view c.self.inside).state _ c.self.inside.outs.items _ c.deref.result.now c.deref-2.result.now c.top_bound-top.result _ _ _ c.self.invariant.3 c.deref.ensures.value c.deref-2.ensures.value (to_z-of_z w128 c.top_bound-top.result f) (to_z-of_z w128 c.greatest_bound.result g)
    top.at_least top.greatest top.within c.greatest_bound.ensures in
    rw (← c.self.view_is, e) (core_packed (the_view c.self.inside) c.self.invariant.0)

pub returns-clause-packed_closed : goal.returns-clause-packed_closed
returns-clause-packed_closed c =
    let f : FitsSigned w128 c.top_bound-top.result = search rules in
    let g : FitsSigned w128 c.greatest_bound.result = search rules in
    let top = rw (← c.self.view_is) at c.top_bound-top.ensures in
    let e = bound_scanned (the_view c.self.inside).state _ c.self.inside.outs.items _ c.deref.result.now c.deref-2.result.now c.top_bound-top.result _ _ _ c.self.invariant.3 c.deref.ensures.value c.deref-2.ensures.value (to_z-of_z w128 c.top_bound-top.result f) (to_z-of_z w128 c.greatest_bound.result g)
    top.at_least top.greatest top.within c.greatest_bound.ensures in
    rw (← c.self.view_is, e) (λ none. core_packed_closed (the_view c.self.inside) c.self.invariant.0 (bound_closed (the_view c.self.inside).state none))

pub returns-clause-range : goal.returns-clause-range
returns-clause-range c =
    let f : FitsSigned w128 c.top_bound-top.result = search rules in
    let g : FitsSigned w128 c.greatest_bound.result = search rules in
    let top = rw (← c.self.view_is) at c.top_bound-top.ensures in
    let e = bound_scanned (the_view c.self.inside).state _ c.self.inside.outs.items _ c.deref.result.now c.deref-2.result.now c.top_bound-top.result _ _ _ c.self.invariant.3 c.deref.ensures.value c.deref-2.ensures.value (to_z-of_z w128 c.top_bound-top.result f) (to_z-of_z w128 c.greatest_bound.result g)
    top.at_least top.greatest top.within c.greatest_bound.ensures in
    rw e (bound_in_range (the_view c.self.inside) c.self.invariant.0 c.n-n.ensures.weights)
