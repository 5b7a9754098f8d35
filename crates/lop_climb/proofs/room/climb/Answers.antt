use Rattle.std.proofs.Common.{ap, arith}
use Rattle.std.proofs.lemmas.Int.{ints}
use Rattle.lop_model.specs.Matrix.{weight}
use Rattle.lop_climb.proofs.ClimbLemmas.{weight-climb}
use Rattle.lop_climb.proofs.room.climb.Goals as goal

pub returns-clause-gains : goal.returns-clause-gains
returns-clause-gains c =
    let w = c.args.weights.now in
    let up = weight-climb w c.room.inside.order c.ascend.new.order c.ascend.result.moves c.ascend.ensures.moves in
    omega (arith, ints, up, c.ascend.ensures.value, ap (weight w) c.room.view_is)
