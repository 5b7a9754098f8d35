use Rattle.std.proofs.Common.{◌≡◌, ℕ, ◌<◌, false, get_or}
use Rattle.lop_lolib.specs.Words.{is_separator}
use Rattle.lop_lolib.proofs.words.word_len.Given as goal

abbrev pub invariant-loop-i : goal.invariant-loop-i
invariant-loop-i l = (k : ℕ) → k < l.i → is_separator (get_or l.bytes k 0) ≡ false
