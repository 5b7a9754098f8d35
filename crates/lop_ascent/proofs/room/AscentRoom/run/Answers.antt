use Rattle.lop_ascent.proofs.room.AscentRoom.run.Goals as goal

pub invariant_of-self-3 : goal.invariant_of-self-3
invariant_of-self-3 c = (
  record {
    within_limit = c.self-3.invariant.0.within_limit;
    enough = c.self-3.invariant.0.enough;
    pairs_fit = c.self-3.invariant.0.pairs_fit;
    all_reduced = c.self-3.invariant.0.all_reduced;
    all_ahead = c.self-3.invariant.0.all_ahead;
    places = c.self-3.invariant.0.places;
    spans_end = c.self-3.invariant.0.spans_end;
    few_entries = c.self-3.invariant.0.few_entries;
    same_spans = c.self-3.invariant.0.same_spans;
    list = c.self-3.invariant.0.list;
    same = c.self-3.invariant.0.same;
    all_hints = c.write_hints.ensures.room;
    duals = c.write_hints.ensures.within;
  },
  c.self-3.invariant.1,
)
