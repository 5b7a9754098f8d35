use Rattle.std.proofs.Common.{◌≡◌, ℕ, ◌<◌, ◌≤◌, true, length, get_or}
use Rattle.lop_preflib.specs.Text.{is_blank}
use Rattle.lop_preflib.proofs.text.text_len.Given as goal

abbrev pub invariant-loop-len : goal.invariant-loop-len
invariant-loop-len l = record {
  within : l.len ≤ length l.bytes;
  blanks : (k : ℕ) → l.len ≤ k → k < length l.bytes → is_blank (get_or l.bytes k 0) ≡ true;
}

abbrev pub decreases-loop-len : goal.decreases-loop-len
decreases-loop-len l = l.len
