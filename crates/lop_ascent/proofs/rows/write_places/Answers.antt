use Rattle.std.proofs.Common.{arith, ◌-◌, sym, subst, List, All}
use Rattle.lop_ascent.specs.declared.place.Place.{Place}
use Rattle.lop_ascent.specs.Places.{IsPlaceIn}
use Rattle.lop_ascent.proofs.PlaceLemmas.{places_set}
use Rattle.lop_ascent.proofs.rows.write_places.Goals.{then-arc-rising, else-arc-rising}
use Rattle.lop_ascent.proofs.rows.write_places.Goals as goal

pub loop-arc-preserved : goal.loop-arc-preserved
loop-arc-preserved c =
    elim c.if-arc-rising.branch [
      | then-arc-rising w ↦ record {
        same_length = omega (arith, c.if-arc-rising.auto.entries, c.loop-arc.invariant.same_length);
        sides = omega (arith, w.front-is, w.back-is, c.loop-arc.invariant.sides);
        from = omega (arith, w.front-is, c.loop-arc.invariant.from);
        few = omega (arith, w.front-is, c.loop-arc.invariant.few);
        places = λ n cells some below h. subst (λ (xs : List Place). All (IsPlaceIn cells) xs) (sym w.entries-is)
            (places_set cells c.loop-arc.entries c.loop-arc.front w.place_of.result (c.loop-arc.invariant.places n cells some below h)
            (w.place_of.ensures n cells (below c.loop-arc.arc-index _ c.loop-arc-test.true) some));
      }
      | else-arc-rising w ↦ record {
        same_length = omega (arith, c.if-arc-rising.auto.entries, c.loop-arc.invariant.same_length);
        sides = omega (arith, w.front-is, w.back-is, c.loop-arc.invariant.sides);
        from = omega (arith, w.front-is, c.loop-arc.invariant.from);
        few = omega (arith, w.front-is, c.loop-arc.invariant.few);
        places = λ n cells some below h. subst (λ (xs : List Place). All (IsPlaceIn cells) xs) (sym w.entries-is)
            (places_set cells c.loop-arc.entries (c.loop-arc.back - 1) w.place_of-else-arc-rising.result (c.loop-arc.invariant.places n cells some below h)
            (w.place_of-else-arc-rising.ensures n cells (below c.loop-arc.arc-index _ c.loop-arc-test.true) some));
      }
    ]
