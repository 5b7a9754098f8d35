use Rattle.std.proofs.Common.{◌≡◌, ◌≤◌, vec_len, length, All}
use Rattle.std.specs.Vec.{vec_capacity}
use Rattle.lop_ascent.specs.Fewer.{AreFewer}
use Rattle.lop_ascent.specs.Places.{IsSpanIn}
use Rattle.lop_ascent.proofs.hints.remove_idle.Given as goal

abbrev pub invariant-loop-at : goal.invariant-loop-at
invariant-loop-at l = record {
  within : l.at ≤ vec_len l.rows;
  same : vec_len l.rows ≡ vec_len l.cuts;
  same_spans : vec_len l.spans ≡ vec_len l.cuts;
  spans : All (IsSpanIn (length l.entries)) l.spans.items;
  span_capacity : vec_capacity l.spans ≡ vec_capacity l.initial.spans;
  capacity : vec_capacity l.rows ≡ vec_capacity l.initial.rows;
  cut_capacity : vec_capacity l.cuts ≡ vec_capacity l.initial.cuts;
  fewer : AreFewer l.initial.cuts.items l.cuts.items;
}

abbrev pub decreases-loop-at : goal.decreases-loop-at
decreases-loop-at l = l.at
