use Rattle.std.proofs.Common.{rules, ◌≡◌, ◌<◌, List, Some, length, arith, sym, ◌∙◌, ap, subst, refl, FitsSigned}
use Rattle.std.specs.Prelude.{vec_capacity, slice_get}
use Rattle.std.proofs.lemmas.Int.{to_z-of_z}
use Rattle.std.proofs.lemmas.List.{length-map, length_push}
use Rattle.std.proofs.lemmas.Option.{slice_get_within, get_or_from_slice_get}
use mir.Syntax.{w128}
use Rattle.lop_core.specs.declared.node.SearchNode.{SearchNode}
use Rattle.lop_core.specs.Tree.{AreLinked, is_out, out_count}
use Rattle.lop_core.specs.Core.{CoreFields, HasHistory}
use Rattle.lop_core.specs.Candidates.{candidates_of}
use Rattle.lop_core.specs.contracts.search.Core.{the_view}
use Rattle.lop_core.proofs.CandidateSteps.{taken_candidates}
use Rattle.lop_core.proofs.Linked.{core_linked}
use Rattle.lop_core.proofs.BookLemmas.{take_recorded}
use Rattle.lop_core.proofs.CoreLemmas.{core_counted, core_take, core_path_length, may_take, written_out, take_view, take_step, take_on_node, ticket_is, first_in, never_ready}
use Rattle.lop_core.proofs.OutLemmas.{out_total, each_inside, any_live, no_live, outs_taken}
use Rattle.lop_core.proofs.search.Core.take.Goals as goal
use Rattle.lop_core.proofs.search.Core.take.Goals.{then-has_above, else-has_above}

pub returns-in_default-clause-step : goal.returns-in_default-clause-step
returns-in_default-clause-step c =
    let f : FitsSigned w128 c.self.inside.best = search rules in
    let b = to_z-of_z w128 c.self.inside.best f in
    let above = rw (c.deref-in_default.ensures.value, c.deref-in_default-2.ensures.value, b) at c.has_above.ensures in
    let never = never_ready (the_view c.self.inside).state c.deref.result.now _ c.deref.ensures.value b c.in_default.ensures.none in
    elim c.if-has_above.branch [
      | then-has_above w ↦
          let some = any_live c.self.inside.nodes.items _ c.self.inside.outs.items _ c.self.invariant.3 c.self.inside.best (sym above ∙ w.if-has_above.true) in
          rw (w.result-is, ← c.self.view_is) (some, never, (refl, refl))
      | else-has_above w ↦
          let none = no_live c.self.inside.nodes.items _ c.self.inside.outs.items _ c.self.invariant.3 c.self.inside.best (sym above ∙ w.if-has_above.false) never in
          rw (w.result-is, ← c.self.view_is) (none, (refl, refl))
    ]

pub returns-then-self-len-clause-step : goal.returns-then-self-len-clause-step
returns-then-self-len-clause-step c =
    let f : FitsSigned w128 c.self.inside.best = search rules in
    let b = to_z-of_z w128 c.self.inside.best f in
    let first = first_in (the_view c.self.inside).state c.in-Some.node c.deref.result.now _ c.deref.ensures.value b c.in-Some.ensures.found in
    rw (← c.self.view_is) ((c.in-Some.node, first.ready), omega (arith, c.if-self-len.true, c.len.ensures, out_total _ _ _ _ c.self.invariant.3, c.self.inside.outs.ok.0), (refl, refl))

pub has_above-requires : goal.has_above-requires
has_above-requires c = rw (c.deref-in_default.ensures.value, c.deref-in_default-2.ensures.value) (each_inside c.self.inside.nodes.items _ c.self.inside.outs.items _ c.self.invariant.3)

pub overflow_cast-len : goal.overflow_cast-len
overflow_cast-len c =
    let h = core_counted _ c.self.invariant.0 in
    let total = out_total _ _ _ _ c.self.invariant.3 in
    omega (arith, h.within, c.self.invariant.2.within_limit, total, c.len.ensures)

pub overflow_add-self-inside : goal.overflow_add-self-inside
overflow_add-self-inside c =
    let h = core_counted _ c.self.invariant.0 in
    let total = out_total _ _ _ _ c.self.invariant.3 in
    omega (arith, h.within, c.self.invariant.2.within_limit, total, c.len.ensures)

pub write_ticket-requires-clause-linked : goal.write_ticket-requires-clause-linked
write_ticket-requires-clause-linked c = subst AreLinked (sym c.deref-2.ensures.value) (core_linked _ c.self.invariant.0)

pub write_ticket-requires-clause-inside : goal.write_ticket-requires-clause-inside
write_ticket-requires-clause-inside c =
    let r = c.in-Some.ensures.found.ready in
    let lt : c.in-Some.node < length c.deref.result.now = slice_get_within c.deref.result.now c.in-Some.node r.it r.is_there in
    omega (arith, ap length c.deref.ensures.value, ap length c.deref-2.ensures.value)

pub write_ticket-requires-clause-room : goal.write_ticket-requires-clause-room
write_ticket-requires-clause-room c =
    let r = c.in-Some.ensures.found.ready in
    let lt : c.in-Some.node < length c.deref.result.now = slice_get_within c.deref.result.now c.in-Some.node r.it r.is_there in
    let d : length c.deref.result.now ≡ length c.self.inside.nodes.items = ap length c.deref.ensures.value in
    let most = core_path_length _ c.self.invariant.0 c.in-Some.node (omega arith) in
    rw (c.deref-2.ensures.value, c.requires.same_n, ← c.self.view_is) most

pub write_ticket-requires-clause-numbered : goal.write_ticket-requires-clause-numbered
write_ticket-requires-clause-numbered c =
    sym (length-map c.self.inside.records.numbers.items _) ∙ c.self.invariant.1.same_length ∙ sym (ap length c.deref-2.ensures.value)

pub index_mut-requires : goal.index_mut-requires
index_mut-requires c =
    let r = c.in-Some.ensures.found.ready in
    let lt : c.in-Some.node < length c.deref.result.now = slice_get_within c.deref.result.now c.in-Some.node r.it r.is_there in
    omega (arith, c.deref.ensures.len)

pub put_last-requires : goal.put_last-requires
put_last-requires c = omega (arith, c.if-self-len.false, c.len.ensures, c.self.invariant.3.enough)

pub put_last-requires-2 : goal.put_last-requires-2
put_last-requires-2 c =
    let h = core_counted _ c.self.invariant.0 in
    let total = out_total _ _ _ _ c.self.invariant.3 in
    omega (arith, h.entries, h.within, c.self.invariant.2.for_entries, total, c.if-self-len.false, c.len.ensures, c.self.inside.outs.ok.0)

pub invariant_of-self : goal.invariant_of-self
invariant_of-self c =
    let r = c.in-Some.ensures.found.ready in
    let f : FitsSigned w128 c.self.inside.best = search rules in
    let counted : c.len.result ≡ out_count c.self.inside.nodes.items = omega (arith, c.len.ensures, out_total _ _ _ _ c.self.invariant.3, c.self.inside.outs.ok.0) in
    let may = may_take (the_view c.self.inside).problem (the_view c.self.inside).state c.in-Some.node c.len.result c.deref.result.now _ c.deref.ensures.value (to_z-of_z w128 c.self.inside.best f) counted r c.if-self-len.false in
    let d : length c.deref.result.now ≡ length c.self.inside.nodes.items = ap length c.deref.ensures.value in
    let lt : c.in-Some.node < length c.deref.result.now = slice_get_within c.deref.result.now c.in-Some.node r.it r.is_there in
    let inside : c.in-Some.node < length c.self.inside.nodes.items = omega arith in
    let nodes = written_out c.self.inside.nodes.items c.in-Some.node c.args.worker c.index_mut.result.now inside c.index_mut.ensures.value in
    let history = core_take _ c.args.worker c.in-Some.node c.self.invariant.0 may in (
      subst HasHistory (sym (take_view _ c.args.worker c.in-Some.node _ _ nodes c.put_last-2.ensures.items)) history,
      take_recorded (the_view c.self.inside) _ c.args.worker c.in-Some.node c.self.invariant.1 inside refl nodes refl c.put_last-2.ensures.items refl,
      record {
        positive = c.self.invariant.2.positive;
        within_limit = c.self.invariant.2.within_limit;
        for_nodes = c.self.invariant.2.for_nodes;
        for_entries = omega (arith, c.self.invariant.2.for_entries, c.put_last-2.ensures.room);
        for_numbers = c.self.invariant.2.for_numbers;
        for_records = c.self.invariant.2.for_records;
      },
      outs_taken c.self.inside.nodes.items _ c.self.inside.budget c.in-Some.node c.args.worker _ c.self.inside.outs.items _ _ _ c.self.invariant.3 inside
          (ap (λ (m : SearchNode). is_out m.standing) (get_or_from_slice_get c.self.inside.nodes.items c.in-Some.node r.it _ (subst (λ (ns : List SearchNode). slice_get ns c.in-Some.node ≡ Some r.it) c.deref.ensures.value r.is_there)) ∙ ap is_out r.idle)
          nodes c.put_last.ensures.items c.put_last.ensures.room,
      c.self.invariant.4,
      c.self.invariant.5,
      record {
        kept = taken_candidates c.self.inside.nodes.items c.self.inside.best c.in-Some.node c.args.worker (candidates_of c.self.inside.candidates) (candidates_of c.remove_top.new.self) _ c.self.invariant.6.kept
            c.in-Some.ensures.top inside c.remove_top.ensures.less (c.remove_top.ensures.ordered c.self.invariant.6.kept.ordered) nodes;
        few = omega (arith, c.self.invariant.6.few, c.remove_top.ensures.count, length_push c.self.inside.outs.items c.in-Some.node, ap length c.put_last.ensures.items);
        room = omega (arith, c.self.invariant.6.room, c.remove_top.ensures.room);
        spare = omega (arith, c.self.invariant.6.spare, ap vec_capacity c.remove_top.ensures.spare);
      },
    )

pub returns-clause-step : goal.returns-clause-step
returns-clause-step c =
    let r = c.in-Some.ensures.found.ready in
    let f : FitsSigned w128 c.self.inside.best = search rules in
    let best = to_z-of_z w128 c.self.inside.best f in
    let counted : c.len.result ≡ out_count c.self.inside.nodes.items = omega (arith, c.len.ensures, out_total _ _ _ _ c.self.invariant.3, c.self.inside.outs.ok.0) in
    let may = may_take (the_view c.self.inside).problem (the_view c.self.inside).state c.in-Some.node c.len.result c.deref.result.now _ c.deref.ensures.value best counted r c.if-self-len.false in
    let d : length c.deref.result.now ≡ length c.self.inside.nodes.items = ap length c.deref.ensures.value in
    let lt : c.in-Some.node < length c.deref.result.now = slice_get_within c.deref.result.now c.in-Some.node r.it r.is_there in
    let nodes = written_out c.self.inside.nodes.items c.in-Some.node c.args.worker c.index_mut.result.now (omega arith) c.index_mut.ensures.value in
    let size = c.requires.same_n ∙ sym (ap (λ (v : CoreFields). v.problem.weights.size) c.self.view_is) in
    let ticket = ticket_is (the_view c.self.inside) c.in-Some.node _ c.deref-2.result.now _ _ c.write_ticket.new.into c.deref-2.ensures.value size best refl c.write_ticket.ensures in
    rw (← c.self.view_is) (take_step (the_view c.self.inside) _ c.args.worker c.in-Some.node c.write_ticket.new.into may (take_view _ c.args.worker c.in-Some.node _ _ nodes c.put_last-2.ensures.items) ticket)

pub returns-clause-on_node : goal.returns-clause-on_node
returns-clause-on_node c =
    let r = c.in-Some.ensures.found.ready in
    let f : FitsSigned w128 c.self.inside.best = search rules in
    let best = to_z-of_z w128 c.self.inside.best f in
    let d : length c.deref.result.now ≡ length c.self.inside.nodes.items = ap length c.deref.ensures.value in
    let lt : c.in-Some.node < length c.deref.result.now = slice_get_within c.deref.result.now c.in-Some.node r.it r.is_there in
    let inside : c.in-Some.node < length c.self.inside.nodes.items = omega arith in
    let nodes = written_out c.self.inside.nodes.items c.in-Some.node c.args.worker c.index_mut.result.now inside c.index_mut.ensures.value in
    let size = c.requires.same_n ∙ sym (ap (λ (v : CoreFields). v.problem.weights.size) c.self.view_is) in
    let ticket = ticket_is (the_view c.self.inside) c.in-Some.node _ c.deref-2.result.now _ _ c.write_ticket.new.into c.deref-2.ensures.value size best refl c.write_ticket.ensures in
    let view = take_view (the_view c.self.inside) c.args.worker c.in-Some.node _ _ nodes c.put_last-2.ensures.items in
    rw (← c.self.view_is) (take_on_node (the_view c.self.inside) _ c.args.worker c.in-Some.node c.write_ticket.new.into c.self.invariant.0 c.self.invariant.1 c.self.invariant.4.book inside view ticket
    (first_in (the_view c.self.inside).state c.in-Some.node c.deref.result.now _ c.deref.ensures.value best c.in-Some.ensures.found))
