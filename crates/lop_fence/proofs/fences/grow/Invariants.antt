use Rattle.std.proofs.Common.{◌≡◌, ◌≤◌, length}
use Rattle.lop_cuts.specs.Separation.{GainsViolated}
use Rattle.lop_fence.proofs.fences.grow.Given as goal

abbrev pub invariant-loop-k : goal.invariant-loop-k
invariant-loop-k l = record {
  posts : l.posts.posts ≡ l.k;
  gains : GainsViolated l.point l.fn.list l.list;
  within : length l.list.cuts ≤ l.until;
  room : l.list.room ≡ l.fn.list.room;
}
