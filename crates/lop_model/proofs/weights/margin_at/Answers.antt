use Rattle.std.proofs.Common.{arith}
use Rattle.std.proofs.lemmas.Int.{ints}
use Rattle.lop_model.specs.Matrix.{matrix_of}
use Rattle.lop_model.proofs.MatrixLemmas.{margin_within}
use Rattle.lop_model.proofs.weights.margin_at.Goals as goal

pub overflow_sub-result : goal.overflow_sub-result
overflow_sub-result c =
    let m = matrix_of c.args.n c.args.entries.now in
    omega (arith, ints, margin_within m c.args.a c.args.b c.requires.row c.requires.column)

pub returns : goal.returns
returns c =
    let m = matrix_of c.args.n c.args.entries.now in
    let within = margin_within m c.args.a c.args.b c.requires.row c.requires.column in
    record {
      value = omega (arith, ints, within);
      low = omega (arith, ints, within);
      high = omega (arith, ints, within);
    }
