use Rattle.std.proofs.Common.{◌≡◌, ◌*◌, ◌+◌, ◌<◌, ◌∙◌, length, rules, arith, w64, FitsSigned}
use Rattle.std.proofs.lemmas.Int.{ints}
use Rattle.lop_basis.specs.Fixed.{product}
use Rattle.lop_basis.specs.Table.{at, cell}
use Rattle.lop_basis.proofs.SumLemmas.{sum_below_more, product_read}
use Rattle.lop_basis.proofs.TableLemmas.{place_within}
use Rattle.lop_basis.proofs.sums.column_sum_at.Goals as goal

pub loop-j-preserved : goal.loop-j-preserved
loop-j-preserved c =
    let within : c.args.i * c.args.n + c.loop-j.j < length c.args.cells.now = omega (arith, place_within c.args.n c.args.i c.loop-j.j c.requires.row c.loop-j-test.true) in
    let vector : FitsSigned w64 (at c.args.column.now c.loop-j.j) = search rules in
    let table : FitsSigned w64 (cell c.args.cells.now c.args.n c.args.i c.loop-j.j) = search rules in
    let value : c.product_of-sum.result ≡ product (cell c.args.cells.now c.args.n c.args.i c.loop-j.j) (at c.args.column.now c.loop-j.j) = c.product_of-sum.ensures.value ∙ product_read (cell c.args.cells.now c.args.n c.args.i c.loop-j.j) (at c.args.column.now c.loop-j.j) table vector in
    record {
      sum_so_far = omega (arith, ints, value, sum_below_more c.loop-j.j (λ j. product (cell c.args.cells.now c.args.n c.args.i j) (at c.args.column.now j)));
      low = omega (arith, ints);
      high = omega (arith, ints);
    }
