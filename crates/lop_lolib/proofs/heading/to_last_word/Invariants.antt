use Rattle.std.proofs.Common.{◌≡◌, ◌+◌, ◌≤◌, length, take}
use Rattle.std.specs.List.{suffix_len}
use Rattle.lop_lolib.specs.Words.{is_separator}
use Rattle.lop_lolib.proofs.heading.to_last_word.Given as goal

abbrev pub invariant-loop-end : goal.invariant-loop-end
invariant-loop-end l = record {
  within : l.«end» ≤ length l.bytes;
  rest : l.«end» + suffix_len is_separator l.bytes ≡ length l.bytes + suffix_len is_separator (take l.«end» l.bytes);
}

abbrev pub decreases-loop-end : goal.decreases-loop-end
decreases-loop-end l = l.«end»
