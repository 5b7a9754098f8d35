use Rattle.std.proofs.Common.{◌≡◌, ◌*◌, ◌+◌, ◌<◌, ◌∙◌, length, rules, arith, w64, FitsSigned}
use Rattle.std.proofs.lemmas.Int.{ints}
use Rattle.lop_basis.specs.Fixed.{product}
use Rattle.lop_basis.specs.Table.{at, cell}
use Rattle.lop_basis.proofs.SumLemmas.{sum_below_more, product_read}
use Rattle.lop_basis.proofs.TableLemmas.{place_within}
use Rattle.lop_basis.proofs.sums.row_sum_at.Goals as goal

pub loop-i-preserved : goal.loop-i-preserved
loop-i-preserved c =
    let within : c.loop-i.i * c.args.n + c.args.j < length c.args.cells.now = omega (arith, place_within c.args.n c.loop-i.i c.args.j c.loop-i-test.true c.requires.column) in
    let vector : FitsSigned w64 (at c.args.costs.now c.loop-i.i) = search rules in
    let table : FitsSigned w64 (cell c.args.cells.now c.args.n c.loop-i.i c.args.j) = search rules in
    let value : c.product_of-sum.result ≡ product (at c.args.costs.now c.loop-i.i) (cell c.args.cells.now c.args.n c.loop-i.i c.args.j) = c.product_of-sum.ensures.value ∙ product_read (at c.args.costs.now c.loop-i.i) (cell c.args.cells.now c.args.n c.loop-i.i c.args.j) vector table in
    record {
      sum_so_far = omega (arith, ints, value, sum_below_more c.loop-i.i (λ i. product (at c.args.costs.now i) (cell c.args.cells.now c.args.n i c.args.j)));
      low = omega (arith, ints);
      high = omega (arith, ints);
    }
