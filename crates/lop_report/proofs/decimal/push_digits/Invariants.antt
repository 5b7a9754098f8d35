use Rattle.std.proofs.Common.{◌≡◌, ◌≤◌, ◌+◌, ◌++◌, length}
use Rattle.lop_report.specs.Decimal.{last_digits}
use Rattle.lop_report.proofs.decimal.push_digits.Given as goal

abbrev pub invariant-loop-left : goal.invariant-loop-left
invariant-loop-left l = record {
  missing : l.text.bytes ++ last_digits l.left l.number ≡ l.fn.text.bytes ++ last_digits l.count l.number;
  short : length l.text.bytes + l.left ≤ length l.fn.text.bytes + l.count;
}
