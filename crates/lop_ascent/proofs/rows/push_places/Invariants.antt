use Rattle.std.proofs.Common.{◌≡◌, ◌≤◌, ◌+◌, ℕ, vec_len, All}
use Rattle.std.specs.Vec.{vec_capacity}
use Rattle.lop_ascent.specs.Places.{HasCells, IsPlaceIn}
use Rattle.lop_ascent.proofs.rows.push_places.Given as goal

abbrev pub invariant-loop-index : goal.invariant-loop-index
invariant-loop-index l = record {
  len : vec_len l.entries ≡ vec_len l.initial.entries + l._index;
  capacity : vec_capacity l.initial.entries ≤ vec_capacity l.entries;
  places : (n cells : ℕ) → HasCells n cells → All (IsPlaceIn cells) l.initial.entries.items → All (IsPlaceIn cells) l.entries.items;
}
