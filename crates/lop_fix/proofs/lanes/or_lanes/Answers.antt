use Rattle.std.proofs.Common.{◌+◌, slice_index, ◌∙◌, ap, arith}
use Rattle.std.specs.Prelude.{bit_or}
use lib.Lanes.{chunk, zip2}
use Rattle.std.proofs.lemmas.Simd.{length-chunk, length-zip2, get_or-chunk, get_or-zip2, get_or-put_chunk_at, get_or-put_chunk_below, get_or-put_chunk_above}
use Rattle.lop_fix.proofs.lanes.or_lanes.Goals as goal

pub returns-clause-here : goal.returns-clause-here
returns-clause-here c k l =
    let at = c.args.at in
    let row = c.args.row.now in
    let with = c.args.with.now in
    let first = length-chunk at 4 row (omega arith) in
    let second = length-chunk at 4 with (omega arith) in
    let long = length-zip2 bit_or (chunk at 4 row) (chunk at 4 with) (omega arith) in
    get_or-put_chunk_at at row (zip2 bit_or (chunk at 4 row) (chunk at 4 with)) k 0 (omega arith) (omega arith)
    ∙ get_or-zip2 bit_or (chunk at 4 row) (chunk at 4 with) k 0 0 0 (omega arith) (omega arith)
    ∙ ap (λ x. bit_or x (slice_index (chunk at 4 with) k)) (get_or-chunk at 4 row k 0 l)
    ∙ ap (λ y. bit_or (slice_index row (at + k)) y) (get_or-chunk at 4 with k 0 l)

pub returns-clause-below : goal.returns-clause-below
returns-clause-below c k l = get_or-put_chunk_below c.args.at c.args.row.now _ k 0 l

pub returns-clause-above : goal.returns-clause-above
returns-clause-above c k l =
    let at = c.args.at in
    let row = c.args.row.now in
    let with = c.args.with.now in
    let first = length-chunk at 4 row (omega arith) in
    let second = length-chunk at 4 with (omega arith) in
    let long = length-zip2 bit_or (chunk at 4 row) (chunk at 4 with) (omega arith) in
    get_or-put_chunk_above at row (zip2 bit_or (chunk at 4 row) (chunk at 4 with)) k 0 (omega arith)
