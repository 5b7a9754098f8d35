use Rattle.std.proofs.Common.{◌≡◌, ◌≤◌, length, take}
use Rattle.lop_core.specs.Records.{new_cuts}
use Rattle.lop_core.proofs.records.new_count.Given as goal

abbrev pub invariant-loop-index : goal.invariant-loop-index
invariant-loop-index l = record {
  so_far : l.count ≡ length (new_cuts l.cuts (take l.index l.shown.terms));
  within : l.count ≤ l.index;
}
