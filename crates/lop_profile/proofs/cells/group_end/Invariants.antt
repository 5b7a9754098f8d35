use Rattle.std.proofs.Common.{◌≡◌, ℕ, ◌-◌, ◌<◌, ◌≤◌, length, get_or}
use Rattle.lop_profile.proofs.cells.group_end.Given as goal

abbrev pub invariant-loop-end : goal.invariant-loop-end
invariant-loop-end l = record {
  behind : l.place < l.end;
  within : l.end ≤ length l.groups;
  same : (q : ℕ) → l.place ≤ q → q < l.end → get_or l.groups q 0 ≡ get_or l.groups l.place 0;
}

abbrev pub decreases-loop-end : goal.decreases-loop-end
decreases-loop-end l = length l.groups - l.end
