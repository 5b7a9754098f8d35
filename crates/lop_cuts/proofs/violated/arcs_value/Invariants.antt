use Rattle.std.proofs.Common.{◌≡◌, ◌≤◌, ◌*◌, ◌^◌, take}
use Rattle.lop_cuts.specs.Point.{arcs_value}
use Rattle.lop_cuts.proofs.violated.arcs_value.Given as goal

abbrev pub invariant-loop-arc : goal.invariant-loop-arc
invariant-loop-arc l = record {
  sum : l.sum ≡ arcs_value l.point (take l.arc-index l.arcs);
  bounded : l.sum ≤ 2 ^ 32 * l.arc-index;
}
