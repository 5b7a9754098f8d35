use Rattle.std.proofs.Common.{◌≡◌, take, true}
use Rattle.lop_certtext.specs.CutLine.{name_objects}
use Rattle.lop_check.proofs.cut.name_objects.Given as goal

abbrev pub invariant-loop-number : goal.invariant-loop-number
invariant-loop-number l = name_objects l.n (take l.number-index l.numbers) ≡ true
