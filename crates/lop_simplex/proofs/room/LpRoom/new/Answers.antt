use Rattle.std.proofs.Common.{◌≡◌, ◌≤◌, ap, rules, arith}
use Rattle.lop_cuts.specs.Point.{PointValues}
use Rattle.lop_simplex.proofs.RowLemmas.{empty_lp}
use Rattle.lop_simplex.proofs.room.LpRoom.new.Goals as goal

pub invariant_of-result : goal.invariant_of-result
invariant_of-result c = (
  empty_lp _ c.in_ok-with_capacity.ensures.items c.in_ok-with_capacity-2.ensures.items (ap (λ (p : PointValues). p.size) c.in_ok-new.ensures) (omega arith),
  c.requires.within_limit,
  omega (arith, c.in_ok-with_capacity.ensures.exact),
  omega (arith, c.in_ok-with_capacity-2.ensures.exact),
  search rules,
  search rules,
  search rules,
  search rules,
  search rules,
  search rules,
)

pub returns-clause-lp : goal.returns-clause-lp
returns-clause-lp c =
    empty_lp _ c.in_ok-with_capacity.ensures.items c.in_ok-with_capacity-2.ensures.items (ap (λ (p : PointValues). p.size) c.in_ok-new.ensures) (omega arith)
