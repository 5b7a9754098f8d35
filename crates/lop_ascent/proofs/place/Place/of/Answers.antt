use Rattle.lop_ascent.proofs.PlaceLemmas.{place_within}
use Rattle.lop_ascent.proofs.place.Place.of.Goals as goal

pub returns : goal.returns
returns c = record {
  within = λ n cells below h. rw c.from-second.ensures (rw c.from.ensures (place_within c.args.i c.args.j n cells c.requires.rising below h));
}
