use Rattle.std.proofs.Common.{◌*◌, ◌+◌, ◌∙◌, ap, List, sym, subst, arith}
use Rattle.std.specs.List.{All}
use Rattle.lop_model.specs.declared.pair.Pair.{Pair}
use Rattle.lop_cuts.specs.Kind.{IsArcBelow}
use Rattle.lop_model.specs.Cells.{cell}
use Rattle.lop_cuts.specs.Charges.{arc_count}
use Rattle.lop_check.proofs.Charging.{side-le, once-le}
use Rattle.lop_cuts.specs.Arcs.{arc}
use Rattle.lop_check.specs.Charges.{AddsCharges}
use Rattle.lop_check.proofs.charge.charge_term.Goals as goal

pub charge_arcs-requires-clause-below : goal.charge_arcs-requires-clause-below
charge_arcs-requires-clause-below c =
    subst (λ (xs : List Pair). All (IsArcBelow c.args.n) xs) (sym c.as_slice.ensures.value) (c.arcs.ensures.below c.args.n c.requires.fits)

pub returns-clause-adds : goal.returns-clause-adds
returns-clause-adds c = subst (AddsCharges c.args.n c.args.charges.now c.charge_arcs.new.charges c.args.multiplier) (c.as_slice.ensures.value ∙ c.arcs.ensures.items) c.charge_arcs.ensures

pub returns-clause-side : goal.returns-clause-side
returns-clause-side c =
    ap (λ k. k * c.from-2.result) c.from.ensures ∙ ap (λ k. c.args.multiplier * k) (c.from-2.ensures ∙ c.right_side.ensures.value)

pub returns-clause-few : goal.returns-clause-few
returns-clause-few c =
    side-le c.from.result c.from-2.result (omega (arith, c.from.ensures, c.requires.small)) (omega (arith, c.from-2.ensures, c.right_side.ensures.at_most))

pub returns-clause-small : goal.returns-clause-small
returns-clause-small c a b l m =
    let one = once-le c.args.multiplier (arc a b) c.arcs.result.items c.arcs.ensures.distinct in
    let each = c.charge_arcs.ensures.each a b l m ∙ ap (λ (xs : List Pair). cell c.args.charges.now c.args.n a b + c.args.multiplier * arc_count a b xs) c.as_slice.ensures.value in
    omega (arith, one, each, c.requires.small)
