use Rattle.std.proofs.Common.{◌≡◌, drop}
use Rattle.lop_cuts.specs.CutTests.{are_different}
use Rattle.lop_certtext.specs.CutLine.{objects_of}
use Rattle.lop_check.proofs.numbers.are_different.Given as goal

abbrev pub invariant-loop-place : goal.invariant-loop-place
invariant-loop-place l = are_different (objects_of l.numbers) ≡ are_different (objects_of (drop l.place l.numbers))
