use Rattle.std.proofs.Common.{◌≡◌, ◌≤◌, ◌+◌, ℕ, vec_len, All}
use Rattle.std.specs.Vec.{vec_capacity}
use Rattle.lop_ascent.specs.Places.{IsPlaceIn}
use Rattle.lop_ascent.proofs.rows.copy_entries.Given as goal

abbrev pub invariant-loop-at : goal.invariant-loop-at
invariant-loop-at l = record {
  len : vec_len l.to + l.span.start ≡ vec_len l.initial.to + l.at;
  capacity : vec_capacity l.initial.to ≤ vec_capacity l.to;
  places : (cells : ℕ) → All (IsPlaceIn cells) l.from → All (IsPlaceIn cells) l.initial.to.items → All (IsPlaceIn cells) l.to.items;
}
