use Rattle.std.proofs.Common.{arith}
use Rattle.lop_ascent.proofs.PlaceLemmas.{places_push}
use Rattle.lop_ascent.proofs.rows.push_places.Goals as goal

pub loop-index-preserved : goal.loop-index-preserved
loop-index-preserved c = record {
  len = omega (arith, c.push_place.ensures.len, c.loop-index.invariant.len);
  capacity = omega (arith, c.push_place.ensures.capacity, c.loop-index.invariant.capacity);
  places = λ n cells some h. places_push cells _ _ _ c.push_place.ensures.items (c.loop-index.invariant.places n cells some h) some.some;
}
