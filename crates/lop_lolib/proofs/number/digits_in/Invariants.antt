use Rattle.std.proofs.Common.{◌≡◌, ℕ, ◌+◌, ◌<◌, min, true, get_or, take}
use Rattle.lop_desk.specs.Number.{is_digit, value_from}
use Rattle.lop_lolib.specs.declared.number.TheConstants.{MAX_NUMBER}
use Rattle.lop_lolib.proofs.number.digits_in.Given as goal

abbrev pub invariant-loop-i : goal.invariant-loop-i
invariant-loop-i l = record {
  digits : (k : ℕ) → k < l.i → is_digit (get_or l.bytes k 0) ≡ true;
  value : l.value ≡ min (MAX_NUMBER + 1) (value_from l.before (take l.i l.bytes));
}
