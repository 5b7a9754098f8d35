use Rattle.std.proofs.Common.{length, ap, arith, refl}
use Rattle.std.proofs.lemmas.List.{length_push, length-drop}
use Rattle.lop_core.proofs.CutIndexLemmas.{number_not_new}
use Rattle.lop_core.proofs.MergeLemmas.{known-le, later_number, pending_new, pending_more, pushed_number}
use Rattle.lop_core.proofs.cut_index.number_fresh.Goals as goal

pub later_cuts-requires : goal.later_cuts-requires
later_cuts-requires c = omega (arith, known-le _ _ _ _ c.requires.pending, ap length c.deref.ensures.value)

pub search-requires : goal.search-requires
search-requires c = rw (c.later_cuts.ensures, c.deref-2.ensures.value, c.deref.ensures.value) c.requires.pending.later

pub returns-in-Ok-clause-cuts : goal.returns-in-Ok-clause-cuts
returns-in-Ok-clause-cuts c =
    let is = rw (c.later_cuts.ensures, c.deref.ensures.value) at c.in-Ok.ensures.found in
    let number = later_number c.args.cuts.now.items (length c.args.index.now) c.args.cut.now c.in-Ok.number (known-le _ _ _ _ c.requires.pending) is in
    rw (number_not_new c.args.cuts.now.items c.args.cut.now _ number) refl

pub returns-in-Ok-clause-number : goal.returns-in-Ok-clause-number
returns-in-Ok-clause-number c =
    let is = rw (c.later_cuts.ensures, c.deref.ensures.value) at c.in-Ok.ensures.found in
    (later_number c.args.cuts.now.items (length c.args.index.now) c.args.cut.now c.in-Ok.number (known-le _ _ _ _ c.requires.pending) is)

pub put_last-requires : goal.put_last-requires
put_last-requires c =
    let gap = rw (c.later_cuts.ensures, c.deref-2.ensures.value, c.deref.ensures.value) at c.in-Err.ensures.gap in
    let room = c.requires.room (pending_new _ _ _ _ c.requires.pending c.args.cut.now c.args.place c.in-Err.at c.requires.gap gap) in
    omega (arith, room, c.requires.pending.placed, c.requires.pending.later.same_length, length-drop (length c.args.index.now) c.args.cuts.now.items, c.requires.rooms.for_places)

pub append-requires-clause-known : goal.append-requires-clause-known
append-requires-clause-known c = omega (arith, known-le _ _ _ _ c.requires.pending)

pub append-requires-clause-fresh : goal.append-requires-clause-fresh
append-requires-clause-fresh c = c.requires.pending.later

pub append-requires-clause-gap : goal.append-requires-clause-gap
append-requires-clause-gap c = rw (c.later_cuts.ensures, c.deref-2.ensures.value, c.deref.ensures.value) at c.in-Err.ensures.gap

pub append-requires-clause-room : goal.append-requires-clause-room
append-requires-clause-room c =
    let gap = rw (c.later_cuts.ensures, c.deref-2.ensures.value, c.deref.ensures.value) at c.in-Err.ensures.gap in
    c.requires.room (pending_new _ _ _ _ c.requires.pending c.args.cut.now c.args.place c.in-Err.at c.requires.gap gap)

pub append-requires-clause-for_cuts : goal.append-requires-clause-for_cuts
append-requires-clause-for_cuts c =
    let gap = rw (c.later_cuts.ensures, c.deref-2.ensures.value, c.deref.ensures.value) at c.in-Err.ensures.gap in
    let room = c.requires.room (pending_new _ _ _ _ c.requires.pending c.args.cut.now c.args.place c.in-Err.at c.requires.gap gap) in
    omega (arith, room, c.requires.rooms.for_cuts)

pub append-requires-clause-for_fresh : goal.append-requires-clause-for_fresh
append-requires-clause-for_fresh c =
    let gap = rw (c.later_cuts.ensures, c.deref-2.ensures.value, c.deref.ensures.value) at c.in-Err.ensures.gap in
    let room = c.requires.room (pending_new _ _ _ _ c.requires.pending c.args.cut.now c.args.place c.in-Err.at c.requires.gap gap) in
    omega (arith, room, c.requires.rooms.for_fresh)

pub returns-in-Err-clause-cuts : goal.returns-in-Err-clause-cuts
returns-in-Err-clause-cuts c =
    let gap = rw (c.later_cuts.ensures, c.deref-2.ensures.value, c.deref.ensures.value) at c.in-Err.ensures.gap in
    rw (pending_new _ _ _ _ c.requires.pending c.args.cut.now c.args.place c.in-Err.at c.requires.gap gap) c.append.ensures.cuts

pub returns-in-Err-clause-number : goal.returns-in-Err-clause-number
returns-in-Err-clause-number c = rw (c.append.ensures.cuts, c.append.ensures.number) (pushed_number c.args.cuts.now.items c.args.cut.now)

pub returns-in-Err-clause-pending : goal.returns-in-Err-clause-pending
returns-in-Err-clause-pending c =
    let longer = rw c.append.ensures.cuts at c.append.ensures.fresh in
    rw (c.append.ensures.cuts, c.put_last.ensures.items) (pending_more _ _ _ _ c.requires.pending c.args.cut.now c.args.place c.append.new.fresh.items c.requires.gap longer)

pub returns-in-Err-clause-rooms : goal.returns-in-Err-clause-rooms
returns-in-Err-clause-rooms c =
    let gap = rw (c.later_cuts.ensures, c.deref-2.ensures.value, c.deref.ensures.value) at c.in-Err.ensures.gap in
    let room = c.requires.room (pending_new _ _ _ _ c.requires.pending c.args.cut.now c.args.place c.in-Err.at c.requires.gap gap) in
    record {
      few = omega (arith, room, ap length c.append.ensures.cuts, length_push c.args.cuts.now.items c.args.cut.now);
      for_cuts = omega (arith, c.requires.rooms.for_cuts, c.append.ensures.for_cuts);
      for_fresh = omega (arith, c.requires.rooms.for_fresh, c.append.ensures.for_fresh);
      for_places = omega (arith, c.requires.rooms.for_places, c.put_last.ensures.room);
    }
