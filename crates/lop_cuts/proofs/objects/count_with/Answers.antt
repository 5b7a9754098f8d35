use Rattle.std.proofs.Common.{◌≡◌, sym, ◌∙◌, ap, arith}
use Rattle.std.specs.List.{list_any}
use Rattle.lop_cuts.specs.Arcs.{same_arc, cycle_arcs}
use Rattle.lop_cuts.specs.Kind.{objects_of}
use Rattle.lop_cuts.proofs.CycleLemmas.{one_if}
use Rattle.lop_cuts.proofs.ArcLemmas.{has_arc}
use Rattle.lop_cuts.proofs.FaultLemmas.{cycles_with_found}
use Rattle.lop_cuts.proofs.objects.count_with.Goals as goal
use Rattle.lop_cuts.proofs.objects.count_with.Goals.{then-contains, else-contains}

pub loop-cycle-preserved : goal.loop-cycle-preserved
loop-cycle-preserved c =
    let arcs = cycle_arcs c.objects.result.now in
    let items = c.deref.ensures.0 ∙ c.cycle_arcs.ensures in
    let found : has_arc arcs c.args.arc ≡ c.contains.result =
    ap (list_any (λ b. same_arc b c.args.arc)) (sym items) ∙ sym c.contains.ensures.value in
    let more = cycles_with_found objects_of c.args.arc c.args.cycles.now c.loop-cycle.cycle-index _ _ (omega arith) (ap (λ xs. has_arc (cycle_arcs xs) c.args.arc) (sym c.objects.ensures.objects) ∙ found) in
    elim c.if-contains.branch [
      | then-contains w ↦ record { so_far = omega (arith, more, ap one_if w.if-contains.true); len = omega arith }
      | else-contains w ↦ record { so_far = omega (arith, more, ap one_if w.if-contains.false); len = omega arith }
    ]
