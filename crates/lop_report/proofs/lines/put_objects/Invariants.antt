use Rattle.std.proofs.Common.{◌≡◌, ◌≤◌, ◌+◌, ◌*◌, ◌++◌, length, take}
use Rattle.std.specs.List.{flat_map}
use Rattle.lop_report.specs.Lines.{object_word}
use Rattle.lop_report.proofs.lines.put_objects.Given as goal

abbrev pub invariant-loop-place : goal.invariant-loop-place
invariant-loop-place l = record {
  so_far : l.room ≡ l.fn.room ++ flat_map object_word (take l.place l.order);
  short : length l.room ≤ length l.fn.room + 6 * l.place;
}
