use Rattle.std.proofs.Common.{◌≡◌, List, sym, subst}
use Rattle.lop_cuts.specs.declared.kind.CutKind.{CutKind}
use Rattle.lop_simplex.specs.Answers.{IsSublist}
use Rattle.lop_simplex.proofs.RowLemmas.{arcs_below, same_list, sublist-remove}
use Rattle.lop_simplex.proofs.rows.drop_if_slack.Goals as goal

pub is_slack-requires : goal.is_slack-requires
is_slack-requires c =
    arcs_below c.args.point.now.size c.args.rows.now.items c.args.index c.index.result.now _ _ c.requires.rows.fit c.requires.index c.index.ensures c.as_slice.ensures.value c.arcs.ensures.below

pub returns-then-is_slack-clause-sublist : goal.returns-then-is_slack-clause-sublist
returns-then-is_slack-clause-sublist c =
    let old = c.args.rows.now.items in
    subst (λ (xs : List CutKind). IsSublist xs old) (sym c.remove-cut.ensures.items) (sublist-remove old c.args.index c.requires.index)

pub returns-else-is_slack-clause-sublist : goal.returns-else-is_slack-clause-sublist
returns-else-is_slack-clause-sublist c = same_list c.args.rows.now.items
