use Rattle.std.proofs.Common.{◌+◌, ◌*◌, ◌/◌, ◌%◌, ◌==◌, slice_index, sym, ◌∙◌, ap, arith}
use Rattle.std.specs.Int.{bit_at}
use Rattle.lop_model.specs.Sums.{count_below}
use Rattle.lop_fix.proofs.CountedBits.{count_columns}
use Rattle.lop_fix.proofs.table.rest_ones.Goals as goal

pub returns-else-n-eq0-clause-value : goal.returns-else-n-eq0-clause-value
returns-else-n-eq0-clause-value c =
    let t = c.args.words.now in
    let n = c.args.n in
    let a = c.args.a in
    c.first_ones.ensures.value
    ∙ ap (λ w. count_below (n % 64) (λ i. bit_at (slice_index t (a * w + n / 64)) i == 1)) c.row_words.ensures
    ∙ sym (count_columns t n a (n / 64) (n % 64) (omega arith))
