use Rattle.std.proofs.Common.{refl}
use Rattle.lop_cuts.proofs.objects.check_cycle.Goals as goal

pub returns-clause-ok : goal.returns-clause-ok
returns-clause-ok c =
    let size = c.objects-objects.ensures.size in
    let distinct = c.if-not-are_distinct.ensures in
    rw (← c.objects-objects.ensures.objects) record {
      in_range = c.if-not-are_in_range.ensures;
      cycle = record { size = size; distinct = distinct.0 refl };
      at_most_one = c.if-has_arc_twice.ensures;
    }
