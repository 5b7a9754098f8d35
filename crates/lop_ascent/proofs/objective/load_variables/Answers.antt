use Rattle.std.proofs.Common.{arith, length}
use Rattle.lop_ascent.proofs.objective.load_variables.Goals as goal

pub bounds-variables-index : goal.bounds-variables-index
bounds-variables-index c =
    omega (arith, c.index.ensures, c.loop-i.invariant, c.of.ensures.within c.args.n (length c.args.variables.now) (omega (arith, c.loop-j-test.true)) c.requires.cells)
