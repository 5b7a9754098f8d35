use Rattle.std.proofs.Common.{◌≡◌, length}
use Rattle.lop_check.specs.TreePlace.{place, IsWalk}
use Rattle.lop_check.proofs.path.Walk.drop_done.Given as goal

abbrev pub invariant-loop-last : goal.invariant-loop-last
invariant-loop-last l = record {
  others : (place l.self).others ≡ (place l.fn.self).others;
  walk : IsWalk l.self;
  size : l.self.trail.size ≡ l.fn.self.trail.size;
}

abbrev pub decreases-loop-last : goal.decreases-loop-last
decreases-loop-last l = length l.self.steps.items
