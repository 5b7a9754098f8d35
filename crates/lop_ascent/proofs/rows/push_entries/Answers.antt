use Rattle.std.proofs.Common.{length, sym, subst, List, All}
use Rattle.std.proofs.lemmas.List.Elements.{All-append, All-take, All-drop}
use Rattle.lop_ascent.specs.declared.place.Place.{Place}
use Rattle.lop_ascent.specs.Places.{IsPlaceIn}
use Rattle.lop_ascent.proofs.rows.push_entries.Goals as goal

pub returns-clause-places : goal.returns-clause-places
returns-clause-places c = λ n cells some below h.
    let longer : All (IsPlaceIn cells) c.push_places.new.entries.items = c.push_places.ensures.places n cells some h in
    let written : All (IsPlaceIn cells) c.write_places-middle.new.entries =
    c.write_places-middle.ensures.places n cells some below (subst (λ (xs : List Place). All (IsPlaceIn cells) xs) (sym c.deref_mut.ensures.value) longer) in
    All-take (IsPlaceIn cells) _ _ (All-append (IsPlaceIn cells) _ _ written (All-drop (IsPlaceIn cells) (length c.write_places-middle.new.entries) _ longer))
