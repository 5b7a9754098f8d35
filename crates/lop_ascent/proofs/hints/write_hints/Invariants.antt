use Rattle.std.proofs.Common.{◌≡◌, length}
use Rattle.lop_ascent.specs.Duals.{AreDuals}
use Rattle.lop_ascent.proofs.hints.write_hints.Given as goal
use Rattle.lop_ascent.specs.declared.room.TheConstants.{MAX_ROWS}

abbrev pub invariant-loop-r : goal.invariant-loop-r
invariant-loop-r l = record {
  room : length l.hints.items ≡ MAX_ROWS;
  within : AreDuals l.hints.items;
}
