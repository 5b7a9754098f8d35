use Rattle.std.proofs.Common.{◌≡◌, take}
use Rattle.lop_certtext.specs.CutLine.{objects_of}
use Rattle.lop_check.proofs.cut.objects_of.Given as goal

abbrev pub invariant-loop-number : goal.invariant-loop-number
invariant-loop-number l = l.objects.items ≡ objects_of (take l.number-index l.numbers)
