use Rattle.std.proofs.Common.{◌≡◌, drop}
use Rattle.lop_desk.specs.Number.{all_digits}
use Rattle.lop_desk.proofs.number.are_digits.Given as goal

abbrev pub invariant-loop-digit : goal.invariant-loop-digit
invariant-loop-digit l = all_digits (drop l.digit-index l.word) ≡ all_digits l.word
