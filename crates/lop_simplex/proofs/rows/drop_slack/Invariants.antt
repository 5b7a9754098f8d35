use Rattle.std.proofs.Common.{◌≡◌, ◌≤◌, length}
use Rattle.std.specs.Vec.{vec_capacity}
use Rattle.lop_simplex.specs.Lp.{AreRows, AreMultipliers}
use Rattle.lop_simplex.specs.Answers.{IsSublist}
use Rattle.lop_simplex.proofs.rows.drop_slack.Given as goal

abbrev pub invariant-loop-index : goal.invariant-loop-index
invariant-loop-index l = record {
  within : l.index ≤ length l.rows.items;
  rows : AreRows l.point.size l.rows.items;
  duals : AreMultipliers l.rows.items l.duals.items;
  sublist : IsSublist l.rows.items l.fn.rows.items;
  fewer : length l.rows.items ≤ length l.fn.rows.items;
  row_room : vec_capacity l.rows ≡ vec_capacity l.fn.rows;
  dual_room : vec_capacity l.duals ≡ vec_capacity l.fn.duals;
}

abbrev pub decreases-loop-index : goal.decreases-loop-index
decreases-loop-index l = l.index
