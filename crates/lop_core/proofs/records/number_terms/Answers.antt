use Rattle.std.proofs.Common.{◌<◌, length, arith}
use Rattle.lop_core.proofs.RecordLemmas.{room_for_one, cuts_step, terms_step, read_term, listed_longer}
use Rattle.lop_core.proofs.records.number_terms.Goals as goal

pub number_of-cut-requires-clause-room : goal.number_of-cut-requires-clause-room
number_of-cut-requires-clause-room c =
    let terms = c.args.shown.now.terms in
    let within : c.loop-index.index < length c.args.shown.now.terms = omega (arith, c.loop-index-test.true, c.len-index-end.ensures.value) in
    room_for_one c.args.cuts.now terms c.len-index-end.ensures.terms.different c.loop-index.index (record { cut = c.term.inside.cut; multiplier = c.term.inside.multiplier }) within
    (read_term terms c.loop-index.index (record { cut = c.term.inside.cut; multiplier = c.term.inside.multiplier }) c.term-term.result.now c.term.view_is c.term-term.ensures.value within)
    c.loop-index.cuts c.loop-index.invariant.cuts c.requires.room

pub number_of-cut-requires-clause-listed : goal.number_of-cut-requires-clause-listed
number_of-cut-requires-clause-listed c = listed_longer c.args.cuts.now _ c.loop-index.cuts c.args.own.now c.loop-index.invariant.cuts c.requires.own

pub loop-index-preserved : goal.loop-index-preserved
loop-index-preserved c =
    let terms = c.args.shown.now.terms in
    let within : c.loop-index.index < length c.args.shown.now.terms = omega (arith, c.loop-index-test.true, c.len-index-end.ensures.value) in
    let is = read_term terms c.loop-index.index (record { cut = c.term.inside.cut; multiplier = c.term.inside.multiplier }) c.term-term.result.now c.term.view_is c.term-term.ensures.value within in
    let step = terms_step c.loop-index.cuts c.number_of-cut.new.cuts terms c.loop-index.index (record { cut = c.term.inside.cut; multiplier = c.term.inside.multiplier }) c.loop-index.fresh.items c.put_last.new.list.items c.number_of-cut.result within is
    c.number_of-cut.ensures.cuts c.number_of-cut.ensures.number c.loop-index.invariant.terms c.loop-index.invariant.listed c.put_last.ensures.items in
    record {
      cuts = cuts_step c.args.cuts.now terms c.len-index-end.ensures.terms.different c.loop-index.index (record { cut = c.term.inside.cut; multiplier = c.term.inside.multiplier }) within is c.loop-index.cuts c.number_of-cut.new.cuts c.loop-index.invariant.cuts c.number_of-cut.ensures.cuts;
      terms = step.0;
      listed = step.1;
      room = omega (arith, c.loop-index.invariant.room, c.put_last.ensures.room);
    }
