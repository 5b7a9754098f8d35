use Rattle.std.proofs.Common.{◌≡◌, ◌-◌, length, take, arith, sym, refl}
use Rattle.std.proofs.lemmas.List.{length-take-le}
use Rattle.lop_core.proofs.MergeLemmas.{merge_begins, merged_room, merged_one, merged_all}
use Rattle.lop_core.proofs.cut_index.merge_into.Goals as goal

pub loop-left-init : goal.loop-left-init
loop-left-init c = merge_begins c.args.cuts.now c.args.list.now c.args.fresh.now c.args.places.now c.args.known _ c.requires.pending c.requires.known (omega arith)

pub bounds-places-number : goal.bounds-places-number
bounds-places-number c =
    let r = merged_room c.args.cuts.now (take c.args.known c.args.list.now) c.args.fresh.now c.args.places.now c.requires.pending c.loop-left.low c.loop-left.left (c.loop-left.left - 1) _ _ c.loop-left.list (omega (arith, c.loop-left-test.true)) refl refl c.loop-left.invariant in
    r.number_inside

pub move_up-requires-clause-at_most : goal.move_up-requires-clause-at_most
move_up-requires-clause-at_most c =
    let r = merged_room c.args.cuts.now (take c.args.known c.args.list.now) c.args.fresh.now c.args.places.now c.requires.pending c.loop-left.low c.loop-left.left (c.loop-left.left - 1) _ _ c.loop-left.list (omega (arith, c.loop-left-test.true)) refl refl c.loop-left.invariant in
    r.at_most

pub move_up-requires-clause-inside : goal.move_up-requires-clause-inside
move_up-requires-clause-inside c =
    let r = merged_room c.args.cuts.now (take c.args.known c.args.list.now) c.args.fresh.now c.args.places.now c.requires.pending c.loop-left.low c.loop-left.left (c.loop-left.left - 1) _ _ c.loop-left.list (omega (arith, c.loop-left-test.true)) refl refl c.loop-left.invariant in
    r.inside

pub loop-left-preserved : goal.loop-left-preserved
loop-left-preserved c =
    let front : length (take c.args.known c.args.list.now) ≡ c.args.known = length-take-le c.args.known c.args.list.now (omega (arith, c.requires.known)) in
    merged_one c.args.cuts.now (take c.args.known c.args.list.now) c.args.fresh.now c.args.places.now c.requires.pending c.args.known c.loop-left.low c.loop-left.left (c.loop-left.left - 1) _ _ c.loop-left.list c.move_up.new.index
    (sym front) (omega (arith, c.loop-left-test.true)) refl refl c.loop-left.invariant c.move_up.ensures.len c.move_up.ensures.number c.move_up.ensures.below c.move_up.ensures.moved c.move_up.ensures.above

pub returns : goal.returns
returns c = merged_all c.args.cuts.now (take c.args.known c.args.list.now) c.args.fresh.now c.args.places.now c.requires.pending c.loop-left.low c.loop-left.left c.loop-left.list (omega (arith, c.loop-left-test.false)) c.loop-left.invariant
