use Rattle.std.proofs.Common.{ℕ, sym, subst, arith}
use Rattle.lop_ascent.specs.Places.{HasCells}
use Rattle.lop_ascent.proofs.ListLemmas.{list_none, view_none}
use Rattle.lop_ascent.proofs.PlaceLemmas.{places_none, spans_none}
use Rattle.lop_ascent.proofs.room.AscentRoom.new.Goals as goal

pub invariant_of-result : goal.invariant_of-result
invariant_of-result c = (
  record {
    within_limit = c.requires;
    enough = subst (λ (k : ℕ). HasCells c.args.n k) (sym c.in_ok-vec.ensures.len) c.cells_for-cells.ensures;
    pairs_fit = omega arith;
    all_reduced = omega (arith, c.in_ok-vec.ensures.len, c.in_ok-vec-2.ensures.len);
    all_ahead = omega (arith, c.in_ok-vec.ensures.len, c.in_ok-vec-3.ensures.len);
    places = places_none _ c.in_ok-with_capacity-4.field-0.items (omega (arith, c.in_ok-with_capacity-4.ensures.len));
    spans_end = spans_none _ c.in_ok-with_capacity-3.field-0.items (omega (arith, c.in_ok-with_capacity-3.ensures.len));
    few_entries = omega (arith, c.in_ok-with_capacity-4.ensures.len);
    same_spans = omega (arith, c.in_ok-with_capacity-3.ensures.len, c.in_ok-with_capacity-2.ensures.len);
    list = list_none c.args.n c.in_ok-with_capacity.field-0.items (omega (arith, c.in_ok-with_capacity.ensures.len));
    same = omega (arith, c.in_ok-with_capacity.ensures.len, c.in_ok-with_capacity-2.ensures.len);
    all_hints = c.in_ok-no_hints.ensures.0;
    duals = c.in_ok-no_hints.ensures.1;
  },
  record {
    cuts = omega (arith, c.in_ok-with_capacity.ensures.capacity);
    rows = omega (arith, c.in_ok-with_capacity-2.ensures.capacity);
    spans = omega (arith, c.in_ok-with_capacity-3.ensures.capacity);
    entries = omega (arith, c.in_ok-with_capacity-4.ensures.capacity);
    spare_spans = omega (arith, c.in_ok-with_capacity-5.ensures.capacity);
    spare = omega (arith, c.in_ok-with_capacity-6.ensures.capacity);
  },
)

pub returns : goal.returns
returns c = view_none c.args.n _ c.in_ok-with_capacity.field-0.items c.in_ok-no_hints.field-0.items c.in_ok-with_capacity.ensures.items c.in_ok-with_capacity.ensures.len
