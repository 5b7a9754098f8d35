use Rattle.std.proofs.Common.{◌≡◌, take}
use Rattle.lop_preflib.specs.Profile.{votes}
use Rattle.lop_profile.proofs.profile.voters.Given as goal

abbrev pub invariant-loop-index : goal.invariant-loop-index
invariant-loop-index l = l.sum ≡ votes (take l.index l.fn.profile.orders)
