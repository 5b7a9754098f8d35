use Rattle.std.proofs.Common.{◌≡◌, ◌++◌, take}
use Rattle.lop_certtext.specs.CutLine.{numbers_of_objects}
use Rattle.lop_certwrite.proofs.line.push_objects.Given as goal

abbrev pub invariant-loop-object : goal.invariant-loop-object
invariant-loop-object l = l.numbers.items ≡ l.fn.numbers.items ++ numbers_of_objects (take l.object-index l.objects)
