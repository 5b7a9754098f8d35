use Rattle.std.proofs.Common.{◌≡◌, take}
use Rattle.lop_certtext.specs.CutLine.{numbers_of_objects}
use Rattle.lop_certwrite.proofs.line.fill_order.Given as goal

abbrev pub invariant-loop-place : goal.invariant-loop-place
invariant-loop-place l = l.numbers.items ≡ numbers_of_objects (take l.place l.order)
