use Rattle.std.proofs.Common.{◌≡◌, drop}
use Rattle.lop_desk.specs.Number.{all_digits, value_from, digits_value}
use Rattle.lop_desk.proofs.number.digits.Given as goal

abbrev pub invariant-loop-digit : goal.invariant-loop-digit
invariant-loop-digit l = record {
  digits : all_digits (drop l.digit-index l.word) ≡ all_digits l.word;
  value : value_from l.value (drop l.digit-index l.word) ≡ digits_value l.word;
}
