use Rattle.std.proofs.Common.{◌≡◌, ◌≤◌, length, refl, ◌∙◌, arith}
use Rattle.lop_simplex.proofs.RowLemmas.{same_list, sublist-trans}
use Rattle.lop_simplex.proofs.rows.drop_slack.Goals as goal

pub loop-index-init : goal.loop-index-init
loop-index-init c = record {
  within = omega arith;
  rows = c.requires.rows;
  duals = c.requires.duals;
  sublist = same_list c.args.rows.now.items;
  fewer = omega arith;
  row_room = refl;
  dual_room = refl;
}

pub loop-index-preserved : goal.loop-index-preserved
loop-index-preserved c =
    let dropped = c.drop_if_slack.ensures in
    let invariant = c.loop-index.invariant in
    record {
      within = dropped.within;
      rows = dropped.rows;
      duals = dropped.duals;
      sublist = sublist-trans dropped.sublist invariant.sublist;
      fewer = omega (arith, dropped.fewer, invariant.fewer);
      row_room = dropped.row_room ∙ invariant.row_room;
      dual_room = dropped.dual_room ∙ invariant.dual_room;
    }
