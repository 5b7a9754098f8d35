use Rattle.std.proofs.Common.{ap}
use Rattle.lop_cuts.specs.Point.{PointValues}
use Rattle.lop_ascent.specs.Rows.{AscentRows}
use Rattle.lop_node.proofs.RoundLemmas.{fit_none}
use Rattle.lop_node.proofs.rounds.Rounds.new.Goals as goal

pub invariant_of-result : goal.invariant_of-result
invariant_of-result c = record {
  same_ascent = ap (λ (r : AscentRows). r.size) c.in_ok-ascent.ensures;
  same_point = ap (λ (p : PointValues). p.size) c.in_ok-point.ensures;
  same_room = c.in_ok-searches.ensures.same_room;
  same_pool = c.in_ok-searches.ensures.same_pool;
  same_rings = c.in_ok-searches.ensures.same_rings;
  same_sums = c.in_ok-orders.ensures.same_sums;
  same_next = c.in_ok-orders.ensures.same_next;
  same_climb = c.in_ok-orders.ensures.same_climb;
  fit = fit_none c.args.n c.in_ok-rounded.rounded c.in_ok-rounded.ensures;
  same_best = c.in_ok-orders.ensures.same_best;
}
