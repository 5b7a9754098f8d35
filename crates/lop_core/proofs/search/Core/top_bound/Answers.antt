use Rattle.std.proofs.Common.{rules, ◌<◌, ◌∙◌, ap, arith, length, pos, FitsSigned}
use Rattle.std.proofs.lemmas.Int.{to_z-of_z}
use Rattle.std.proofs.lemmas.List.{get_or_default}
use Rattle.std.proofs.lemmas.Option.{slice_get_within}
use mir.Syntax.{w128}
use Rattle.lop_core.specs.declared.node.SearchNode.{SearchNode}
use Rattle.lop_core.specs.Tree.{child, no_pair}
use Rattle.lop_core.specs.contracts.search.Core.{the_view}
use Rattle.lop_core.proofs.CoreLemmas.{first_in, never_ready}
use Rattle.lop_core.proofs.OutLemmas.{none_above, reached_by}
use Rattle.lop_core.proofs.search.Core.top_bound.Goals as goal

pub index-requires : goal.index-requires
index-requires c =
    let r = c.in-Some.ensures.found.ready in
    let lt : c.in-Some.node < length c.deref.result.now = slice_get_within c.deref.result.now c.in-Some.node r.it r.is_there in
    omega (arith, ap length c.deref.ensures.value)

pub returns-in-Some : goal.returns-in-Some
returns-in-Some c =
    let f : FitsSigned w128 c.self.inside.best = search rules in
    let g : FitsSigned w128 c.index.result.now.bound = search rules in
    let r = c.in-Some.ensures.found.ready in
    let lt : c.in-Some.node < length c.deref.result.now = slice_get_within c.deref.result.now c.in-Some.node r.it r.is_there in
    let inside : c.in-Some.node < length c.self.inside.nodes.items = omega (arith, ap length c.deref.ensures.value) in
    let first = first_in (the_view c.self.inside).state c.in-Some.node c.deref.result.now _ c.deref.ensures.value (to_z-of_z w128 c.self.inside.best f) c.in-Some.ensures.found in
    let is = to_z-of_z w128 c.index.result.now.bound g ∙ ap (λ (m : SearchNode). m.bound) (c.index.ensures ∙ get_or_default c.self.inside.nodes.items c.in-Some.node c.index.result.now (child 0 no_pair (pos 0)) inside) in
    let h = reached_by (the_view c.self.inside).state c.in-Some.node _ first is in
    rw (← c.self.view_is) (record { at_least = h.at_least; greatest = h.greatest; within = h.within })

pub returns-in-None : goal.returns-in-None
returns-in-None c =
    let f : FitsSigned w128 c.self.inside.best = search rules in
    let b = to_z-of_z w128 c.self.inside.best f in
    let none = never_ready (the_view c.self.inside).state c.deref.result.now _ c.deref.ensures.value b c.in-None.ensures.none in
    let h = none_above (the_view c.self.inside).state _ none b in
    rw (← c.self.view_is) (record { at_least = h.at_least; greatest = h.greatest; within = h.within })
