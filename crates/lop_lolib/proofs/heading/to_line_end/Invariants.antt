use Rattle.std.proofs.Common.{◌≡◌, ℕ, ◌<◌, false, get_or}
use Rattle.lop_lolib.specs.Title.{is_line_end}
use Rattle.lop_lolib.proofs.heading.to_line_end.Given as goal

abbrev pub invariant-loop-i : goal.invariant-loop-i
invariant-loop-i l = (k : ℕ) → k < l.i → is_line_end (get_or l.bytes k 0) ≡ false
