use Rattle.std.proofs.Common.{◌≡◌, ◌≤◌, ◌+◌, ℕ, length, All}
use Rattle.lop_cuts.specs.Kind.{IsArcBelow}
use Rattle.lop_ascent.specs.Places.{HasCells, IsPlaceIn}
use Rattle.lop_ascent.proofs.rows.write_places.Given as goal

abbrev pub invariant-loop-arc : goal.invariant-loop-arc
invariant-loop-arc l = record {
  same_length : length l.entries ≡ length l.initial.entries;
  sides : l.front + length l.arcs ≡ l.back + l.arc-index;
  from : l.at ≤ l.front;
  few : l.front ≤ l.at + l.arc-index;
  places : (n cells : ℕ) → HasCells n cells → All (IsArcBelow n) l.arcs → All (IsPlaceIn cells) l.initial.entries → All (IsPlaceIn cells) l.entries;
}
