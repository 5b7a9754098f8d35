use Rattle.std.proofs.Common.{List, sym, ◌∙◌, subst}
use Rattle.std.specs.List.{All}
use Rattle.lop_model.specs.declared.pair.Pair.{Pair}
use Rattle.lop_cuts.specs.declared.kind.CutKind.TheVariants.{Dicycle}
use Rattle.lop_cuts.specs.Kind.{IsArcBelow, FitsCut}
use Rattle.lop_cuts.proofs.InRangeLemmas.{arcs_below}
use Rattle.lop_leaf.proofs.charges.charge_cut.Goals as goal

pub charge_arcs-requires-clause-below : goal.charge_arcs-requires-clause-below
charge_arcs-requires-clause-below c =
    let same = sym c.kind.ensures.kind ∙ c.in-Dicycle.is in
    rw c.three_arcs.ensures (arcs_below (Dicycle c.in-Dicycle.objects) c.args.n (subst (FitsCut c.args.n) same c.requires.fits))

pub charge_arcs-requires-in-Fence-clause-below : goal.charge_arcs-requires-in-Fence-clause-below
charge_arcs-requires-in-Fence-clause-below c =
    subst (λ (xs : List Pair). All (IsArcBelow c.args.n) xs) (sym c.as_slice.ensures.value) (c.arcs.ensures.below c.args.n c.requires.fits)
