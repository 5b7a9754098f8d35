use Rattle.std.proofs.Common.{rules, List, sym, subst, arith}
use Rattle.std.specs.Prelude.{All}
use Rattle.lop_model.specs.declared.pair.Pair.{Pair}
use Rattle.lop_cuts.specs.Kind.{IsArcBelow}
use Rattle.lop_ascent.proofs.ListLemmas.{fits_more, row_added}
use Rattle.lop_ascent.proofs.PlaceLemmas.{spans_push, spans_more}
use Rattle.lop_ascent.proofs.room.AscentRoom.add_row.Goals as goal
use Rattle.lop_model.specs.declared.weights.TheConstants.{MAX_OBJECTS}

pub push_entries-span-requires-clause-below : goal.push_entries-span-requires-clause-below
push_entries-span-requires-clause-below c =
    let P = λ (xs : List Pair). All (IsArcBelow MAX_OBJECTS) xs in
    subst P (sym c.as_slice.ensures.value) (c.arcs-arcs.ensures.below MAX_OBJECTS (fits_more c.self.inside.size c.args.cut.now c.self.invariant.0.within_limit (search rules)))

pub invariant_of-self : goal.invariant_of-self
invariant_of-self c = (
  record {
    within_limit = c.self.invariant.0.within_limit;
    enough = c.self.invariant.0.enough;
    pairs_fit = c.self.invariant.0.pairs_fit;
    all_reduced = c.self.invariant.0.all_reduced;
    all_ahead = c.self.invariant.0.all_ahead;
    places =
        let P = λ (xs : List Pair). All (IsArcBelow c.self.inside.size) xs in
        c.push_entries-span.ensures.places c.self.inside.size _ c.self.invariant.0.enough (subst P (sym c.as_slice.ensures.value) (c.arcs-arcs.ensures.below c.self.inside.size (search rules))) c.self.invariant.0.places;
    spans_end = spans_push _ _ _ _ c.push_span.ensures.items (spans_more _ _ _ (omega (arith, c.push_entries-span.ensures.more)) c.self.invariant.0.spans_end) (omega (arith, c.push_entries-span.ensures.span));
    few_entries = omega (arith, c.push_entries-span.ensures.few, c.push_row.ensures.len, c.self.invariant.0.few_entries);
    same_spans = omega (arith, c.push_span.ensures.len, c.push_row.ensures.len, c.self.invariant.0.same_spans);
    list = row_added c.self.inside.size c.self.inside.cuts.items c.deref.result.now c.push_cut.new.cuts.items c.args.cut.now c.self.invariant.0.list c.deref.ensures.value (c.has_cut.ensures.new_cut c.if-has_cut.false) (omega (arith, c.len.ensures, c.self.invariant.0.same)) c.kind-kind.ensures.cut (search rules) c.push_cut.ensures.items;
    same = omega (arith, c.push_row.ensures.len, c.push_cut.ensures.len, c.self.invariant.0.same);
    all_hints = c.set_hint.ensures.room;
    duals = c.set_hint.ensures.within;
  },
  record {
    cuts = c.push_cut.ensures.capacity;
    rows = c.push_row.ensures.capacity;
    spans = omega (arith, c.push_span.ensures.capacity, c.self.invariant.1.spans);
    entries = c.push_entries-span.ensures.capacity;
    spare_spans = c.self.invariant.1.spare_spans;
    spare = c.self.invariant.1.spare;
  },
)
