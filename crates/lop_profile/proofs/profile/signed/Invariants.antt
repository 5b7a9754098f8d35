use Rattle.std.proofs.Common.{◌≡◌, map, pos, take}
use Rattle.lop_profile.proofs.profile.signed.Given as goal

abbrev pub invariant-loop-cell : goal.invariant-loop-cell
invariant-loop-cell l = l.entries.items ≡ map pos (take l.cell-index l.cells)
