use Rattle.std.proofs.Common.{vec_capacity, rules, ◌∷◌, ◌≡◌, ◌<◌, ◌≤◌, length, arith, sym, ◌∙◌, ap, subst, FitsSigned, refl, true, false, to_z, of_z}
use Rattle.std.specs.Prelude.{ℤ, ◌≤ℤ◌}
use Rattle.std.specs.Int.{int_max}
use Rattle.std.proofs.lemmas.Int.{to_z-of_z, ints, clamps}
use Rattle.std.proofs.lemmas.Option.{IfSome_then}
use mir.Syntax.{w128}
use Rattle.lop_core.specs.declared.node.Standing.TheVariants.{Out}
use Rattle.lop_core.specs.Machine.{IsOutTo}
use Rattle.lop_core.specs.Records.{with_children, record_at}
use Rattle.lop_core.specs.Core.{CoreFields, IsSoundReport}
use Rattle.lop_core.specs.contracts.search.Core.{the_view}
use Rattle.lop_core.proofs.CoreLemmas.{core_counted, report_counts, out_to, not_out_to, not_there, Leaves, leaves_by, left_true, left_noted, left_keeps, kept_is, room_is, taken_is, report_facts, report_laws, report_candidates, if_some}
use Rattle.lop_core.proofs.CandidateLemmas.{candidates_in}
use Rattle.lop_core.proofs.OutLemmas.{out_total, out_listed, out_to_out, outs_reported}
use Rattle.lop_core.proofs.BookLemmas.{GrownBook, grown_by}
use Rattle.lop_core.specs.Candidates.{candidates_of}
use Rattle.lop_core.specs.Kept.{book_of, kept_of, record_of}
use Rattle.lop_leaf.specs.Record.{IsScaledTerms}
use Rattle.std.proofs.lemmas.List.{length-map}
use Rattle.std.proofs.lemmas.List.Sorted.{length_permutation}
use Rattle.lop_core.proofs.search.Core.report.Goals as goal
use Rattle.lop_core.proofs.search.Core.report.Goals.{in-Some, in-None}

le_greater : (old new value : ℤ) → new ≡ int_max old value → old ≤ℤ new
le_greater old new value e = rw e (omega (arith, ints, clamps))

pub returns-then-index-len : goal.returns-then-index-len
returns-then-index-len c =
    let l : length c.self.inside.nodes.items ≤ c.args.found.now.node = omega (arith, c.len.ensures, c.if-index-len.true, c.node-node.ensures) in
    rw (← c.self.view_is) (record { step = (not_there (the_view c.self.inside).state c.args.worker c.args.found.now.node l, refl) })

pub returns-then-not-is_out_to : goal.returns-then-not-is_out_to
returns-then-not-is_out_to c =
    let never : ¬ (c.index.result.now.standing ≡ Out c.args.worker) = λ e. let f : false ≡ true = c.if-not-is_out_to.ensures.1 e in cc in
    let none = subst (λ n. ¬ (IsOutTo (the_view c.self.inside).state c.args.worker n)) c.node-node.ensures (not_out_to (the_view c.self.inside).state c.args.worker c.node-node.result c.index.result.now c.index.ensures never) in
    rw (← c.self.view_is) (record { step = (none, refl) })

pub keep_better-requires : goal.keep_better-requires
keep_better-requires c =
    let lt : c.node-node.result < length c.self.inside.nodes.items = omega (arith, c.len.ensures, c.if-index-len.false) in
    let out = subst (λ n. IsOutTo (the_view c.self.inside).state c.args.worker n) c.node-node.ensures (out_to (the_view c.self.inside).state c.args.worker c.node-node.result c.index.result.now lt c.index.ensures (c.if-not-is_out_to.ensures.0 refl)) in
    let sound = subst (λ (v : CoreFields). IsOutTo v.state c.args.worker c.args.found.now.node → IsSoundReport v c.args.found.now) (sym c.self.view_is) c.requires.sound out in
    omega (arith, c.self.invariant.0.is_order.complete, sound.sound.order.complete, ap length c.order.ensures)

pub overflow_add-self : goal.overflow_add-self
overflow_add-self c =
    let h = core_counted _ c.self.invariant.0 in
    omega (arith, h.within, c.self.invariant.2.within_limit)

pub remove_out-requires : goal.remove_out-requires
remove_out-requires c =
    let lt : c.node-node.result < length c.self.inside.nodes.items = omega (arith, c.len.ensures, c.if-index-len.false) in
    let out = out_to (the_view c.self.inside).state c.args.worker c.node-node.result c.index.result.now lt c.index.ensures (c.if-not-is_out_to.ensures.0 refl) in
    out_listed c.self.inside.nodes.items _ c.self.inside.outs.items _ c.self.invariant.3 c.node-node.result lt (out_to_out c.self.inside.nodes.items c.node-node.result c.args.worker out.0 out.1 out.2)

pub offer-room-requires-clause-for_record : goal.offer-room-requires-clause-for_record
offer-room-requires-clause-for_record c =
    let lt : c.node-node.result < length c.self.inside.nodes.items = omega (arith, c.len.ensures, c.if-index-len.false) in
    let out = out_to (the_view c.self.inside).state c.args.worker c.node-node.result c.index.result.now lt c.index.ensures (c.if-not-is_out_to.ensures.0 refl) in
    let h = core_counted _ c.self.invariant.0 in
    let one = report_counts (the_view c.self.inside) c.args.worker c.node-node.result c.self.invariant.0 out in
    let kept : length (kept_of c.self.inside.records) ≡ length c.self.inside.records.spans.items = length-map c.self.inside.records.spans.items (record_of c.self.inside.records.terms.items) in
    omega (arith, kept, c.self.invariant.1.kept, h.within, one, c.self.invariant.2.for_records)

pub offer-room-requires-clause-small : goal.offer-room-requires-clause-small
offer-room-requires-clause-small c =
    let h = core_counted _ c.self.invariant.0 in
    let kept : length (kept_of c.self.inside.records) ≡ length c.self.inside.records.spans.items = length-map c.self.inside.records.spans.items (record_of c.self.inside.records.terms.items) in
    omega (arith, kept, c.self.invariant.1.kept, h.within, c.self.invariant.2.within_limit)

pub raise-requires-clause-rises : goal.raise-requires-clause-rises
raise-requires-clause-rises c =
    let fb : FitsSigned w128 c.self.inside.best = search rules in
    let fx : FitsSigned w128 c.keep_better.new.best = search rules in
    let a = to_z-of_z w128 c.self.inside.best fb in
    let b = to_z-of_z w128 c.keep_better.new.best fx in
    subst (λ (z : ℤ). z ≤ℤ to_z w128 (of_z w128 c.keep_better.new.best)) (sym a) (subst (λ (z : ℤ). c.self.inside.best ≤ℤ z) (sym b) (le_greater c.self.inside.best c.keep_better.new.best _ c.keep_better.ensures.best))

pub raise-requires-clause-spare : goal.raise-requires-clause-spare
raise-requires-clause-spare c =
    let h = core_counted _ c.self.invariant.0 in
    omega (arith, c.self.invariant.6.few, c.self.invariant.6.spare, h.within)

pub put_last-requires : goal.put_last-requires
put_last-requires c =
    let lt : c.node-node.result < length c.self.inside.nodes.items = omega (arith, c.len.ensures, c.if-index-len.false) in
    let out = out_to (the_view c.self.inside).state c.args.worker c.node-node.result c.index.result.now lt c.index.ensures (c.if-not-is_out_to.ensures.0 refl) in
    let h = core_counted _ c.self.invariant.0 in
    let one = report_counts (the_view c.self.inside) c.args.worker c.node-node.result c.self.invariant.0 out in
    omega (arith, h.entries, h.within, one, c.self.invariant.2.for_entries)

pub settle-split-requires-clause-room : goal.settle-split-requires-clause-room
settle-split-requires-clause-room c =
    let lt : c.node-node.result < length c.self.inside.nodes.items = omega (arith, c.len.ensures, c.if-index-len.false) in
    let out = out_to (the_view c.self.inside).state c.args.worker c.node-node.result c.index.result.now lt c.index.ensures (c.if-not-is_out_to.ensures.0 refl) in
    let h = core_counted _ c.self.invariant.0 in
    let one = report_counts (the_view c.self.inside) c.args.worker c.node-node.result c.self.invariant.0 out in
    omega (arith, h.size, h.splits, h.within, one, c.self.invariant.2.for_nodes)

pub settle-split-requires-clause-small : goal.settle-split-requires-clause-small
settle-split-requires-clause-small c =
    let lt : c.node-node.result < length c.self.inside.nodes.items = omega (arith, c.len.ensures, c.if-index-len.false) in
    let out = out_to (the_view c.self.inside).state c.args.worker c.node-node.result c.index.result.now lt c.index.ensures (c.if-not-is_out_to.ensures.0 refl) in
    let h = core_counted _ c.self.invariant.0 in
    let one = report_counts (the_view c.self.inside) c.args.worker c.node-node.result c.self.invariant.0 out in
    omega (arith, h.size, h.splits, h.within, one, c.self.invariant.2.within_limit)

pub inherit-requires-clause-inside : goal.inherit-requires-clause-inside
inherit-requires-clause-inside c =
    let lt : c.node-node.result < length c.self.inside.nodes.items = omega (arith, c.len.ensures, c.if-index-len.false) in
    let out = subst (λ n. IsOutTo (the_view c.self.inside).state c.args.worker n) c.node-node.ensures (out_to (the_view c.self.inside).state c.args.worker c.node-node.result c.index.result.now lt c.index.ensures (c.if-not-is_out_to.ensures.0 refl)) in
    let sound = subst (λ (v : CoreFields). IsOutTo v.state c.args.worker c.args.found.now.node → IsSoundReport v c.args.found.now) (sym c.self.view_is) c.requires.sound out in
    let few = subst IsScaledTerms c.shown.ensures c.offer-room.ensures.shown in
    let room = room_is (the_view c.self.inside) c.args.found.now c.offer-room.result c.self.inside.records.term_room c.node-node.result c.shown.result.now c.offer-room.ensures.room c.self.invariant.5 c.node-node.ensures c.shown.ensures in
    let taken = taken_is (book_of c.self.inside.records) (book_of c.offer-room.new.self) c.offer-room.result _ c.node-node.result c.args.found.now.node c.shown.result.now c.args.found.now.shown room c.node-node.ensures c.shown.ensures c.offer-room.ensures.taken in
    let facts = report_facts (the_view c.self.inside) c.args.found.now (book_of c.offer-room.new.self) c.self.invariant.0 c.self.invariant.1 c.self.invariant.4.book (subst (λ n. n < length c.self.inside.nodes.items) c.node-node.ensures lt) sound few taken in
    let numbers : length c.offer-room.new.self.numbers.items ≡ length c.self.inside.nodes.items = sym (length-map c.offer-room.new.self.numbers.items (record_at (kept_of c.offer-room.new.self))) ∙ facts.same_length in
    omega (arith, numbers, lt)

pub inherit-requires-clause-room : goal.inherit-requires-clause-room
inherit-requires-clause-room c =
    let lt : c.node-node.result < length c.self.inside.nodes.items = omega (arith, c.len.ensures, c.if-index-len.false) in
    let out = subst (λ n. IsOutTo (the_view c.self.inside).state c.args.worker n) c.node-node.ensures (out_to (the_view c.self.inside).state c.args.worker c.node-node.result c.index.result.now lt c.index.ensures (c.if-not-is_out_to.ensures.0 refl)) in
    let sound = subst (λ (v : CoreFields). IsOutTo v.state c.args.worker c.args.found.now.node → IsSoundReport v c.args.found.now) (sym c.self.view_is) c.requires.sound out in
    let few = subst IsScaledTerms c.shown.ensures c.offer-room.ensures.shown in
    let room = room_is (the_view c.self.inside) c.args.found.now c.offer-room.result c.self.inside.records.term_room c.node-node.result c.shown.result.now c.offer-room.ensures.room c.self.invariant.5 c.node-node.ensures c.shown.ensures in
    let taken = taken_is (book_of c.self.inside.records) (book_of c.offer-room.new.self) c.offer-room.result _ c.node-node.result c.args.found.now.node c.shown.result.now c.args.found.now.shown room c.node-node.ensures c.shown.ensures c.offer-room.ensures.taken in
    let facts = report_facts (the_view c.self.inside) c.args.found.now (book_of c.offer-room.new.self) c.self.invariant.0 c.self.invariant.1 c.self.invariant.4.book (subst (λ n. n < length c.self.inside.nodes.items) c.node-node.ensures lt) sound few taken in
    let numbers : length c.offer-room.new.self.numbers.items ≡ length c.self.inside.nodes.items = sym (length-map c.offer-room.new.self.numbers.items (record_at (kept_of c.offer-room.new.self))) ∙ facts.same_length in
    let own = out_to (the_view c.self.inside).state c.args.worker c.node-node.result c.index.result.now lt c.index.ensures (c.if-not-is_out_to.ensures.0 refl) in
    let h = core_counted _ c.self.invariant.0 in
    let one = report_counts (the_view c.self.inside) c.args.worker c.node-node.result c.self.invariant.0 own in
    if_some c.settle-split.result (omega (arith, numbers, h.size, h.splits, h.within, one, c.self.invariant.2.for_numbers, c.offer-room.ensures.for_nodes))

pub put_children-requires-clause-room : goal.put_children-requires-clause-room
put_children-requires-clause-room c =
    let lt : c.node-node.result < length c.self.inside.nodes.items = omega (arith, c.len.ensures, c.if-index-len.false) in
    let out = out_to (the_view c.self.inside).state c.args.worker c.node-node.result c.index.result.now lt c.index.ensures (c.if-not-is_out_to.ensures.0 refl) in
    let h = core_counted _ c.self.invariant.0 in
    let one = report_counts (the_view c.self.inside) c.args.worker c.node-node.result c.self.invariant.0 out in
    let total = out_total c.self.inside.nodes.items _ c.self.inside.outs.items _ c.self.invariant.3 in
    let moved = length_permutation c.self.inside.outs.items (c.node-node.result ∷ c.remove_out.new.outs.items) c.remove_out.ensures.moved in
    if_some c.settle-split.result (omega (arith, h.within, one, total, moved, c.self.invariant.6.few, c.self.invariant.6.room, c.raise.ensures.count, c.raise.ensures.room))

pub put_children-requires-clause-small : goal.put_children-requires-clause-small
put_children-requires-clause-small c =
    let lt : c.node-node.result < length c.self.inside.nodes.items = omega (arith, c.len.ensures, c.if-index-len.false) in
    let out = out_to (the_view c.self.inside).state c.args.worker c.node-node.result c.index.result.now lt c.index.ensures (c.if-not-is_out_to.ensures.0 refl) in
    let h = core_counted _ c.self.invariant.0 in
    let one = report_counts (the_view c.self.inside) c.args.worker c.node-node.result c.self.invariant.0 out in
    IfSome_then c.settle-split.result c.settle-split.ensures.first (λ first p. omega (arith, p.0, h.size, h.splits, h.within, one, c.self.invariant.2.within_limit))

pub invariant_of-self : goal.invariant_of-self
invariant_of-self c =
    let lt : c.node-node.result < length c.self.inside.nodes.items = omega (arith, c.len.ensures, c.if-index-len.false) in
    let own = out_to (the_view c.self.inside).state c.args.worker c.node-node.result c.index.result.now lt c.index.ensures (c.if-not-is_out_to.ensures.0 refl) in
    let out = subst (λ n. IsOutTo (the_view c.self.inside).state c.args.worker n) c.node-node.ensures (out_to (the_view c.self.inside).state c.args.worker c.node-node.result c.index.result.now lt c.index.ensures (c.if-not-is_out_to.ensures.0 refl)) in
    let sound = subst (λ (v : CoreFields). IsOutTo v.state c.args.worker c.args.found.now.node → IsSoundReport v c.args.found.now) (sym c.self.view_is) c.requires.sound out in
    let few = subst IsScaledTerms c.shown.ensures c.offer-room.ensures.shown in
    let room = room_is (the_view c.self.inside) c.args.found.now c.offer-room.result c.self.inside.records.term_room c.node-node.result c.shown.result.now c.offer-room.ensures.room c.self.invariant.5 c.node-node.ensures c.shown.ensures in
    let taken = taken_is (book_of c.self.inside.records) (book_of c.offer-room.new.self) c.offer-room.result _ c.node-node.result c.args.found.now.node c.shown.result.now c.args.found.now.shown room c.node-node.ensures c.shown.ensures c.offer-room.ensures.taken in
    let fb : FitsSigned w128 c.bound.result = search rules in
    let fb2 : FitsSigned w128 c.bound-2.result = search rules in
    let fs : FitsSigned w128 c.index-2.result.now.bound = search rules in
    let fk : FitsSigned w128 c.either-bound.result = search rules in
    let fv : FitsSigned w128 c.value-value.result = search rules in
    let fx : FitsSigned w128 c.keep_better.new.best = search rules in
    let kept = kept_is (the_view c.self.inside) c.args.found.now c.offer-room.result (to_z w128 (of_z w128 c.bound-2.result)) (to_z w128 (of_z w128 c.index-2.result.now.bound)) c.node-node.result c.index-2.result.now room (to_z-of_z w128 c.bound-2.result fb2 ∙ c.bound-2.ensures) (to_z-of_z w128 c.index-2.result.now.bound fs) c.node-node.ensures c.index-2.ensures lt in
    let l : Leaves (the_view c.self.inside) c.args.worker c.args.found.now c.settle-split.new.nodes.items c.keep_better.new.best c.put_last.new.list.items c.keep_better.new.order =
    leaves_by (the_view c.self.inside) c.args.worker c.args.found.now c.settle-split.new.nodes.items c.keep_better.new.best c.put_last.new.list.items c.keep_better.new.order
    c.node-node.result (to_z w128 (of_z w128 c.bound.result)) (to_z w128 (of_z w128 c.either-bound.result)) (to_z w128 (of_z w128 c.value-value.result)) (to_z w128 (of_z w128 c.keep_better.new.best)) c.pair-pair.result c.order.result.now c.offer-room.result
    c.node-node.ensures (to_z-of_z w128 c.bound.result fb ∙ c.bound.ensures) (to_z-of_z w128 c.either-bound.result fk ∙ c.either-bound.ensures ∙ kept) (to_z-of_z w128 c.value-value.result fv ∙ c.value-value.ensures) (to_z-of_z w128 c.keep_better.new.best fx) c.pair-pair.ensures c.order.ensures room
    c.settle-split.ensures.after c.keep_better.ensures.best c.put_last.ensures.items c.keep_better.ensures.order in
    let grown = grown_by c.self.inside.nodes.items c.settle-split.new.nodes.items (book_of c.offer-room.new.self) (book_of c.inherit.new.self) c.node-node.result c.settle-split.result
    c.settle-split.ensures.first c.settle-split.ensures.closed c.inherit.ensures.split c.inherit.ensures.closed in
    let grown' = subst (λ n. GrownBook c.self.inside.nodes.items (book_of c.offer-room.new.self) n c.settle-split.result c.settle-split.new.nodes.items (book_of c.inherit.new.self)) c.node-node.ensures grown in (
      left_true (the_view c.self.inside) c.args.worker c.args.found.now _ _ _ _ l _ c.self.invariant.0 c.self.invariant.1 few out sound,
      report_laws (the_view c.self.inside) _ c.args.worker c.args.found.now c.keep_better.new.best (book_of c.offer-room.new.self) c.settle-split.result c.settle-split.new.nodes.items
          c.self.invariant.0 c.self.invariant.1 c.self.invariant.4.book out sound few taken l.nodes_are grown' refl refl l.journal_is refl,
      record {
        positive = c.self.invariant.2.positive;
        within_limit = c.self.invariant.2.within_limit;
        for_nodes = omega (arith, c.self.invariant.2.for_nodes, c.settle-split.ensures.room);
        for_entries = omega (arith, c.self.invariant.2.for_entries, c.put_last.ensures.room);
        for_numbers = omega (arith, c.self.invariant.2.for_numbers, c.offer-room.ensures.for_nodes, c.inherit.ensures.for_nodes);
        for_records = omega (arith, c.self.invariant.2.for_records, c.offer-room.ensures.for_records, c.inherit.ensures.for_records);
      },
      outs_reported c.self.inside.nodes.items c.self.inside.budget c.node-node.result _ _ c.self.inside.outs.items c.remove_out.new.outs.items _ _ c.self.invariant.3 lt
          (out_to_out c.self.inside.nodes.items c.node-node.result c.args.worker own.0 own.1 own.2) c.remove_out.ensures.moved c.remove_out.ensures.room c.pair-pair.result c.settle-split.new.nodes.items c.settle-split.ensures.after,
      c.inherit.ensures.kept,
      c.inherit.ensures.term_room ∙ c.offer-room.ensures.term_room ∙ c.self.invariant.5,
      record {
        kept = report_candidates (the_view c.self.inside) c.args.worker c.args.found.now _ _ _ _ c.settle-split.result _ (candidates_of c.raise.new.self) (candidates_of c.put_children.new.self) l
            c.self.invariant.0 c.self.invariant.1 few out sound (candidates_in c.self.inside.nodes.items c.deref.result.now c.keep_better.new.best (to_z w128 (of_z w128 c.keep_better.new.best)) (candidates_of c.raise.new.self) c.deref.ensures.value (to_z-of_z w128 c.keep_better.new.best fx) c.raise.ensures.kept) (to_z-of_z w128 c.either-bound.result fk ∙ c.either-bound.ensures ∙ kept)
            c.settle-split.ensures.first c.settle-split.ensures.closed c.put_children.ensures.split c.put_children.ensures.closed (c.put_children.ensures.ordered (candidates_in c.self.inside.nodes.items c.deref.result.now c.keep_better.new.best (to_z w128 (of_z w128 c.keep_better.new.best)) (candidates_of c.raise.new.self) c.deref.ensures.value (to_z-of_z w128 c.keep_better.new.best fx) c.raise.ensures.kept).ordered);
        few = omega (arith, out_total c.self.inside.nodes.items _ c.self.inside.outs.items _ c.self.invariant.3, length_permutation c.self.inside.outs.items (c.node-node.result ∷ c.remove_out.new.outs.items) c.remove_out.ensures.moved, c.self.invariant.6.few, c.raise.ensures.count, c.put_children.ensures.count, report_counts (the_view c.self.inside) c.args.worker c.args.found.now.node c.self.invariant.0 out);
        room = omega (arith, c.self.invariant.6.room, c.raise.ensures.room, c.put_children.ensures.room);
        spare = omega (arith, c.self.invariant.6.spare, c.raise.ensures.spare, ap vec_capacity c.put_children.ensures.spare);
      },
    )

pub returns : goal.returns
returns c =
    let lt : c.node-node.result < length c.self.inside.nodes.items = omega (arith, c.len.ensures, c.if-index-len.false) in
    let out = subst (λ n. IsOutTo (the_view c.self.inside).state c.args.worker n) c.node-node.ensures (out_to (the_view c.self.inside).state c.args.worker c.node-node.result c.index.result.now lt c.index.ensures (c.if-not-is_out_to.ensures.0 refl)) in
    let sound = subst (λ (v : CoreFields). IsOutTo v.state c.args.worker c.args.found.now.node → IsSoundReport v c.args.found.now) (sym c.self.view_is) c.requires.sound out in
    let few = subst IsScaledTerms c.shown.ensures c.offer-room.ensures.shown in
    let room = room_is (the_view c.self.inside) c.args.found.now c.offer-room.result c.self.inside.records.term_room c.node-node.result c.shown.result.now c.offer-room.ensures.room c.self.invariant.5 c.node-node.ensures c.shown.ensures in
    let taken = taken_is (book_of c.self.inside.records) (book_of c.offer-room.new.self) c.offer-room.result _ c.node-node.result c.args.found.now.node c.shown.result.now c.args.found.now.shown room c.node-node.ensures c.shown.ensures c.offer-room.ensures.taken in
    let fb : FitsSigned w128 c.bound.result = search rules in
    let fb2 : FitsSigned w128 c.bound-2.result = search rules in
    let fs : FitsSigned w128 c.index-2.result.now.bound = search rules in
    let fk : FitsSigned w128 c.either-bound.result = search rules in
    let fv : FitsSigned w128 c.value-value.result = search rules in
    let fx : FitsSigned w128 c.keep_better.new.best = search rules in
    let kept = kept_is (the_view c.self.inside) c.args.found.now c.offer-room.result (to_z w128 (of_z w128 c.bound-2.result)) (to_z w128 (of_z w128 c.index-2.result.now.bound)) c.node-node.result c.index-2.result.now room (to_z-of_z w128 c.bound-2.result fb2 ∙ c.bound-2.ensures) (to_z-of_z w128 c.index-2.result.now.bound fs) c.node-node.ensures c.index-2.ensures lt in
    let l : Leaves (the_view c.self.inside) c.args.worker c.args.found.now c.settle-split.new.nodes.items c.keep_better.new.best c.put_last.new.list.items c.keep_better.new.order =
    leaves_by (the_view c.self.inside) c.args.worker c.args.found.now c.settle-split.new.nodes.items c.keep_better.new.best c.put_last.new.list.items c.keep_better.new.order
    c.node-node.result (to_z w128 (of_z w128 c.bound.result)) (to_z w128 (of_z w128 c.either-bound.result)) (to_z w128 (of_z w128 c.value-value.result)) (to_z w128 (of_z w128 c.keep_better.new.best)) c.pair-pair.result c.order.result.now c.offer-room.result
    c.node-node.ensures (to_z-of_z w128 c.bound.result fb ∙ c.bound.ensures) (to_z-of_z w128 c.either-bound.result fk ∙ c.either-bound.ensures ∙ kept) (to_z-of_z w128 c.value-value.result fv ∙ c.value-value.ensures) (to_z-of_z w128 c.keep_better.new.best fx) c.pair-pair.ensures c.order.ensures room
    c.settle-split.ensures.after c.keep_better.ensures.best c.put_last.ensures.items c.keep_better.ensures.order in
    let noted = left_noted (the_view c.self.inside) c.args.worker c.args.found.now _ _ _ _ l (book_of c.inherit.new.self) in
    let keeps = left_keeps (the_view c.self.inside) c.args.worker c.args.found.now _ _ _ _ l in
    elim c.match-split.branch [
      | in-Some w ↦
          let first = rw w.in-Some.is at c.settle-split.ensures.first in
          let book = rw w.in-Some.is at c.inherit.ensures.split in
          rw (w.result-is, ← c.self.view_is) (record { step = (record { was_out = out; noted = noted; keeps = keeps; book = book_of c.offer-room.new.self; taken = taken }, first.0, first.1, subst (λ n. book_of c.inherit.new.self ≡ with_children (book_of c.offer-room.new.self) n) c.node-node.ensures book) })
      | in-None w ↦
          let closed = rw w.in-None.is at c.settle-split.ensures.closed in
          let book = rw w.in-None.is at c.inherit.ensures.closed in
          rw (w.result-is, ← c.self.view_is) (record { step = (record { was_out = out; noted = noted; keeps = keeps; book = book_of c.offer-room.new.self; taken = taken }, closed, book) })
    ]
