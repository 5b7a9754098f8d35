use Rattle.std.proofs.Common.{rules, arith, List, ap, subst}
use Rattle.lop_cuts.specs.declared.kind.CutKind.{CutKind}
use Rattle.lop_ascent.specs.Fewer.{AreAmongCuts}
use Rattle.lop_ascent.specs.Rows.{AscentRows}
use Rattle.lop_ascent.proofs.FewerLemmas.{list_after}
use Rattle.lop_ascent.proofs.room.AscentRoom.drop_below.Goals as goal

pub invariant_of-self : goal.invariant_of-self
invariant_of-self c = (
  record {
    within_limit = c.self.invariant.0.within_limit;
    enough = c.self.invariant.0.enough;
    pairs_fit = c.self.invariant.0.pairs_fit;
    all_reduced = c.self.invariant.0.all_reduced;
    all_ahead = c.self.invariant.0.all_ahead;
    places = c.compact.ensures.laid_out.places _ c.self.invariant.0.places;
    spans_end = c.compact.ensures.laid_out.spans;
    few_entries = omega (arith, c.compact.ensures.laid_out.few, c.compact.ensures.len, c.remove_idle.ensures.same_spans, c.remove_idle.ensures.same, c.compact.new.spans.ok);
    same_spans = omega (arith, c.compact.ensures.len, c.remove_idle.ensures.same_spans, c.remove_idle.ensures.same);
    list = list_after c.self.inside.size c.self.inside.cuts.items c.remove_idle.new.cuts.items c.self.invariant.0.list c.remove_idle.ensures.fewer;
    same = search rules;
    all_hints = c.write_hints.ensures.room;
    duals = c.write_hints.ensures.within;
  },
  record {
    cuts = omega (arith, c.remove_idle.ensures.cut_capacity, c.self.invariant.1.cuts);
    rows = omega (arith, c.remove_idle.ensures.capacity, c.self.invariant.1.rows);
    spans = c.compact.ensures.spans_room;
    entries = c.compact.ensures.entries_room;
    spare_spans = c.compact.ensures.spare_spans_room;
    spare = c.compact.ensures.spare_room;
  },
)

pub returns-clause-among : goal.returns-clause-among
returns-clause-among c =
    subst (λ (xs : List CutKind). AreAmongCuts c.remove_idle.new.cuts.items xs) (ap (λ (r : AscentRows). r.cuts) c.self.view_is) c.remove_idle.ensures.fewer.among
