use Rattle.std.proofs.Common.{◌∙◌, subst, ap, length, map, arith}
use Rattle.lop_cuts.specs.Kind.{IsCut, objects_of}
use Rattle.lop_cuts.specs.Arcs.{ladder_arcs}
use Rattle.lop_cuts.proofs.KindLemmas.{ladder_long_at, IsValidCut-IsCut}
use Rattle.lop_cuts.proofs.cut.Cut.right_side.Goals as goal

pub overflow_sub-result-in-Ladder : goal.overflow_sub-result-in-Ladder
overflow_sub-result-in-Ladder c =
    let right = subst IsCut c.in-Ladder.is c.self.invariant in
    let arcs = ap length (c.ladder_arcs.ensures ∙ ap (λ cs. ladder_arcs (map objects_of cs)) c.deref.ensures.0) in
    omega (arith, ladder_long_at c.in-Ladder.cycles.items right, arcs, c.len.ensures.value, c.len-in-Ladder.ensures.value)

pub returns-in-Dicycle-clause-valid : goal.returns-in-Dicycle-clause-valid
returns-in-Dicycle-clause-valid c = λ n. IsValidCut-IsCut n _ (subst IsCut c.self.view_is c.self.invariant)

pub returns-in-Fence-clause-valid : goal.returns-in-Fence-clause-valid
returns-in-Fence-clause-valid c = λ n. IsValidCut-IsCut n _ (subst IsCut c.self.view_is c.self.invariant)

pub returns-in-Ladder-clause-valid : goal.returns-in-Ladder-clause-valid
returns-in-Ladder-clause-valid c = λ n. IsValidCut-IsCut n _ (subst IsCut c.self.view_is c.self.invariant)
