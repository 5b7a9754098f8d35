use Rattle.std.proofs.Common.{sym, ◌∙◌, subst}
use Rattle.lop_cuts.specs.declared.kind.CutKind.TheVariants.{Dicycle, Fence, Ladder}
use Rattle.lop_cuts.specs.Kind.{IsCut, FitsCut}
use Rattle.lop_cuts.proofs.InRangeLemmas.{arcs_below}
use Rattle.lop_cuts.proofs.DistinctLemmas.{arcs_distinct}
use Rattle.lop_cuts.proofs.cut.Cut.arcs.Goals as goal

pub returns-in-Dicycle-clause-distinct : goal.returns-in-Dicycle-clause-distinct
returns-in-Dicycle-clause-distinct c =
    let right = subst IsCut c.in-Dicycle.is c.self.invariant in
    rw c.cycle_arcs.ensures (arcs_distinct (Dicycle c.in-Dicycle.objects) right)

pub returns-in-Fence-clause-distinct : goal.returns-in-Fence-clause-distinct
returns-in-Fence-clause-distinct c =
    let right = subst IsCut c.in-Fence.is c.self.invariant in
    rw (c.fence_arcs.ensures, c.deref.ensures.0, c.deref-in-Fence.ensures.0) (arcs_distinct (Fence c.in-Fence.u c.in-Fence.w) right)

pub returns-in-Ladder-clause-distinct : goal.returns-in-Ladder-clause-distinct
returns-in-Ladder-clause-distinct c =
    let right = subst IsCut c.in-Ladder.is c.self.invariant in
    rw (c.ladder_arcs.ensures, c.deref-in-Ladder.ensures.0) (arcs_distinct (Ladder c.in-Ladder.cycles) right)

pub returns-in-Dicycle-clause-below : goal.returns-in-Dicycle-clause-below
returns-in-Dicycle-clause-below c =
    let same = sym c.self.view_is ∙ c.in-Dicycle.is in
    λ n fits. rw c.cycle_arcs.ensures (arcs_below (Dicycle c.in-Dicycle.objects) n (subst (FitsCut n) same fits))

pub returns-in-Fence-clause-below : goal.returns-in-Fence-clause-below
returns-in-Fence-clause-below c =
    let same = sym c.self.view_is ∙ c.in-Fence.is in
    λ n fits. rw (c.fence_arcs.ensures, c.deref.ensures.0, c.deref-in-Fence.ensures.0) (arcs_below (Fence c.in-Fence.u c.in-Fence.w) n (subst (FitsCut n) same fits))

pub returns-in-Ladder-clause-below : goal.returns-in-Ladder-clause-below
returns-in-Ladder-clause-below c =
    let same = sym c.self.view_is ∙ c.in-Ladder.is in
    λ n fits. rw (c.ladder_arcs.ensures, c.deref-in-Ladder.ensures.0) (arcs_below (Ladder c.in-Ladder.cycles) n (subst (FitsCut n) same fits))
