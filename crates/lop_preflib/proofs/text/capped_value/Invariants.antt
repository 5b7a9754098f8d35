use Rattle.std.proofs.Common.{◌≡◌, ◌≤◌, drop, min}
use Rattle.lop_desk.specs.Number.{all_digits, value_from, digits_value}
use Rattle.lop_preflib.proofs.text.capped_value.Given as goal

abbrev pub invariant-loop-digit : goal.invariant-loop-digit
invariant-loop-digit l = record {
  small : l.value ≤ 1000000000000000001;
  digits : all_digits (drop l.digit-index l.word) ≡ all_digits l.word;
  value : min (value_from l.value (drop l.digit-index l.word)) 1000000000000000001 ≡ min (digits_value l.word) 1000000000000000001;
}
