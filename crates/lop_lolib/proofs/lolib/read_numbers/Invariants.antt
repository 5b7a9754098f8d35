use Rattle.std.proofs.Common.{◌≤◌, ◌-◌, length}
use Rattle.lop_lolib.specs.Words.{words_of}
use Rattle.lop_lolib.proofs.EntriesLemmas.{AreFirstEntries}
use Rattle.lop_lolib.proofs.lolib.read_numbers.Given as goal

abbrev pub invariant-loop-words : goal.invariant-loop-words
invariant-loop-words l = record {
  so_far : AreFirstEntries (words_of l.initial.words.rest.now) (words_of l.words.rest.now) l.digits.items l.decimals.items l.most;
  within : length l.digits.items ≤ l.count;
}

abbrev pub decreases-loop-words : goal.decreases-loop-words
decreases-loop-words l = l.count - length l.digits.items
