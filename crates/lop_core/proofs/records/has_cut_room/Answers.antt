use Rattle.std.proofs.Common.{◌+◌, ◌≤◌, length, sym, ◌∙◌, arith}
use Rattle.std.proofs.lemmas.Bool.{le-leb}
use Rattle.lop_core.specs.Records.{new_cuts}
use Rattle.lop_core.proofs.BookLemmas.{new_count-le-terms}
use Rattle.lop_core.proofs.records.has_cut_room.Goals as goal

-- the record's cuts are no fewer than its new ones
pub returns-then-len-le-CUT_ROOM : goal.returns-then-len-le-CUT_ROOM
returns-then-len-le-CUT_ROOM c =
    let cuts = c.args.cuts.now in
    let terms = c.args.shown.now.terms in
    let all : c.len.result + c.len-2.result ≤ 65536 = c.if-len-le-CUT_ROOM.true in
    let most : length cuts + length (new_cuts cuts terms) ≤ 65536 = omega (arith, all, c.len.ensures.value, c.len-2.ensures.value, new_count-le-terms cuts terms) in
    le-leb (c.len.result + c.len-2.result) 65536 all ∙ sym (le-leb (length cuts + length (new_cuts cuts terms)) 65536 most)
