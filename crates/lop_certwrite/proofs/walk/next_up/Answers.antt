use Rattle.std.proofs.Common.{◌≢◌, ◌<◌, arith, ap, sym, ◌∙◌, rules}
use Rattle.lop_core.specs.declared.node.NodeView.{NodeView}
use Rattle.lop_certwrite.proofs.WalkLemmas.{parent_before, goes_first, goes_up}
use Rattle.lop_certwrite.proofs.walk.next_up.Goals as goal

pub overflow_add-result : goal.overflow_add-result
overflow_add-result c = let inside = c.loop-at.invariant.inside in omega (arith, c.requires.small)

pub returns-then-is_first : goal.returns-then-is_first
returns-then-is_first c =
    let ne : c.loop-at.at ≢ 0 = search rules in
    goes_first c.args.core.now.state.nodes c.loop-at.at c.node-parent.result.parent ne (ap (λ (v : NodeView). v.parent) c.node-parent.ensures.value) c.args.node
    (sym c.is_first.ensures ∙ c.if-is_first.true) c.loop-at.invariant.same

pub loop-at-smaller : goal.loop-at-smaller
loop-at-smaller c =
    let ne : c.loop-at.at ≢ 0 = search rules in
    parent_before c.args.core.now.state.nodes c.loop-at.at c.node-parent.result.parent ne (ap (λ (v : NodeView). v.parent) c.node-parent.ensures.value) c.requires.linked c.loop-at.invariant.inside

pub loop-at-preserved : goal.loop-at-preserved
loop-at-preserved c =
    let ne : c.loop-at.at ≢ 0 = search rules in
    let e = ap (λ (v : NodeView). v.parent) c.node-parent.ensures.value in
    let before : c.node-parent.result.parent < c.loop-at.at = parent_before c.args.core.now.state.nodes c.loop-at.at c.node-parent.result.parent ne e c.requires.linked c.loop-at.invariant.inside in
    let inside = c.loop-at.invariant.inside in
    record {
      inside = omega arith;
      same = λ trees p. goes_up c.args.core.now.state.nodes c.loop-at.at c.node-parent.result.parent ne e trees (sym c.is_first.ensures ∙ c.if-is_first.false) (c.loop-at.invariant.same trees p);
    }
