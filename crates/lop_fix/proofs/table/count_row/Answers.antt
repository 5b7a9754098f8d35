use Rattle.std.proofs.Common.{◌≡◌, ◌+◌, ◌*◌, ◌/◌, ◌%◌, ◌∙◌, ap, arith}
use Rattle.lop_model.specs.Sums.{count_below}
use Rattle.lop_model.proofs.CountLemmas.{count_below-add, count_below-most}
use Rattle.lop_fix.specs.Table.{at}
use Rattle.lop_fix.proofs.table.count_row.Goals as goal

pub overflow_cast-result : goal.overflow_cast-result
overflow_cast-result c =
    let f = at c.args.words.now c.args.n c.args.a in
    let whole = count_below-most (c.args.n / 64 * 64) f in
    let rest = count_below-most (c.args.n % 64) (λ i. f (c.args.n / 64 * 64 + i)) in
    omega (arith, whole, rest, c.whole_ones.ensures.value, c.rest_ones.ensures.value)

pub returns : goal.returns
returns c =
    let n = c.args.n in
    let f = at c.args.words.now n c.args.a in
    let split : n ≡ n / 64 * 64 + n % 64 = omega arith in
    let parts : count_below n f ≡ count_below (n / 64 * 64) f + count_below (n % 64) (λ i. f (n / 64 * 64 + i)) =
    ap (λ m. count_below m f) split ∙ count_below-add (n / 64 * 64) (n % 64) f in
    omega (arith, parts, c.whole_ones.ensures.value, c.rest_ones.ensures.value)
