use Rattle.std.proofs.Common.{◌≤◌, arith}
use Rattle.lop_core.proofs.Linked.{core_linked}
use Rattle.lop_certwrite.specs.CoreTree.{WholeTree}
use Rattle.lop_certwrite.proofs.Growth.{whole_tree}
use Rattle.lop_certwrite.proofs.Limits.{has_text}
use Rattle.lop_certwrite.proofs.TreeSize.{evaluated_in_tree}
use Rattle.lop_certwrite.proofs.WalkLemmas.{tree_inside}
use Rattle.lop_certwrite.proofs.writer.write_certificate.Goals as goal
use Rattle.lop_core.specs.declared.search.TheConstants.{MAX_BUDGET}

pub record_of-requires : goal.record_of-requires
record_of-requires g c =
    let whole : WholeTree c.args.core.now.state.nodes = whole_tree c.args.core.now c.evaluated.ensures.history in
    tree_inside c.args.core.now.state.nodes 0 whole.tree whole.is_tree

pub find-requires-clause-whole : goal.find-requires-clause-whole
find-requires-clause-whole g c = whole_tree c.args.core.now c.evaluated.ensures.history

pub find-requires-clause-linked : goal.find-requires-clause-linked
find-requires-clause-linked g c = core_linked c.args.core.now c.evaluated.ensures.history

pub returns-clause-has_text : goal.returns-clause-has_text
returns-clause-has_text g c =
    let few : c.args.core.now.state.evaluated ≤ MAX_BUDGET = omega (arith, c.evaluated.ensures.value, c.evaluated.ensures.within_budget, c.budget.ensures.value, c.budget.ensures.within_limit) in
    has_text c.args.core.now c.evaluated.ensures.history c.cuts.ensures.recorded c.cuts.ensures.book c.record_of.ensures.terms few

pub returns-clause-evaluated : goal.returns-clause-evaluated
returns-clause-evaluated g c = λ certificate. evaluated_in_tree c.args.core.now certificate c.evaluated.ensures.history
