use Rattle.std.proofs.Common.{List, subst, sym}
use Rattle.std.specs.Prelude.{All}
use Rattle.lop_model.specs.declared.pair.Pair.{Pair}
use Rattle.lop_cuts.specs.Kind.{IsArcBelow}
use Rattle.lop_cuts.proofs.violated.is_violated.Goals as goal

pub arcs_value-requires-clause-below : goal.arcs_value-requires-clause-below
arcs_value-requires-clause-below c =
    let n = c.args.point.now.size in
    subst (λ (xs : List Pair). All (IsArcBelow n) xs) (sym c.as_slice.ensures.value) (c.arcs.ensures.below n c.requires)
