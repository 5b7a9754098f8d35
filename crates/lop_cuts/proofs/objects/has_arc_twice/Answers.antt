use Rattle.std.proofs.Common.{ℕ, ◌≤◌, ◌∙◌, subst, map, arith}
use Rattle.std.proofs.lemmas.List.Elements.{All-more}
use Rattle.lop_cuts.specs.Arcs.{cycles_with}
use Rattle.lop_cuts.specs.Kind.{objects_of}
use Rattle.lop_cuts.proofs.FaultLemmas.{All-passed, Any-at}
use Rattle.lop_cuts.proofs.objects.has_arc_twice.Goals as goal

pub returns-then-count_with-ge2 : goal.returns-then-count_with-ge2
returns-then-count_with-ge2 c =
    let others = map objects_of c.args.others.now in
    let P : ℕ → Type 0 = λ m. 2 ≤ m in
    Any-at (λ a. 2 ≤ cycles_with a others) _ _ c.loop-arc.arc-index _ (c.deref-arc-items.ensures.0 ∙ c.cycle_arcs-arcs.ensures) c.loop-arc-test.true (subst P c.count_with.ensures c.if-count_with-ge2.true)

pub loop-arc-preserved : goal.loop-arc-preserved
loop-arc-preserved c =
    let others = map objects_of c.args.others.now in
    let below : c.count_with.result ≤ 1 = omega (arith, c.if-count_with-ge2.false) in
    let P : ℕ → Type 0 = λ m. m ≤ 1 in
    let one = subst P c.count_with.ensures below in
    All-more (λ a. cycles_with a others ≤ 1) c.deref-arc-items.result.now c.loop-arc.arc-index _ c.loop-arc-test.true c.loop-arc.invariant one

pub returns : goal.returns
returns c =
    let others = map objects_of c.args.others.now in
    All-passed (λ a. cycles_with a others ≤ 1) _ _ c.loop-arc.arc-index (c.deref-arc-items.ensures.0 ∙ c.cycle_arcs-arcs.ensures) c.loop-arc-test.false c.loop-arc.invariant
