use Rattle.std.proofs.Common.{◌≤◌, map, take, All}
use Rattle.lop_cuts.specs.Arcs.{cycles_with}
use Rattle.lop_cuts.specs.Kind.{objects_of}
use Rattle.lop_cuts.proofs.objects.has_arc_twice.Given as goal

abbrev pub invariant-loop-arc : goal.invariant-loop-arc
invariant-loop-arc l = All (λ a. cycles_with a (map objects_of l.others) ≤ 1) (take l.arc-index l.arc-items)
