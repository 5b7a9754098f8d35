use Rattle.std.proofs.Common.{◌≡◌, ◌≤◌, vec_len}
use Rattle.std.specs.Vec.{vec_capacity}
use Rattle.lop_ascent.specs.Places.{AreLaidOut}
use Rattle.lop_ascent.proofs.rows.lay_out.Given as goal
use Rattle.lop_ascent.specs.declared.room.TheConstants.{MAX_ROWS}

abbrev pub invariant-loop-span : goal.invariant-loop-span
invariant-loop-span l = record {
  len : vec_len l.to ≡ l.span-index;
  laid_out : AreLaidOut l.entries l.into.items l.to.items;
  to_room : MAX_ROWS ≤ vec_capacity l.to;
  into_room : 262144 ≤ vec_capacity l.into;
}
