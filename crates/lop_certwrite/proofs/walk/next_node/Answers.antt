use Rattle.std.proofs.Common.{◌≡◌, ap, sym, ◌∙◌, false, inl, inr}
use Rattle.lop_core.specs.declared.node.NodeView.{NodeView}
use Rattle.lop_core.specs.Tree.{is_split}
use Rattle.lop_certwrite.proofs.WalkLemmas.{next_first, next_leaf}
use Rattle.lop_certwrite.proofs.walk.next_node.Goals as goal

pub returns-in-Split : goal.returns-in-Split
returns-in-Split c = next_first c.args.core.now.state.nodes c.args.node c.in-Split.first (sym (ap (λ (v : NodeView). v.standing) c.node.ensures.value) ∙ c.in-Split.is)

pub returns-in-Idle : goal.returns-in-Idle
returns-in-Idle c =
    let st : is_split c.node.result.standing ≡ false = elim c.in-Idle.is [ inl e ↦ ap is_split e | inr e ↦ ap is_split e.1 ] in
    next_leaf c.args.core.now.state.nodes c.args.node c.next_up.result (sym (ap (λ (v : NodeView). is_split v.standing) c.node.ensures.value) ∙ st) c.next_up.ensures
