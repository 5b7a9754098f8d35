use Rattle.std.proofs.Common.{◌<◌, IfSome, length}
use Rattle.lop_simplex.proofs.pass.leaving.Given as goal

abbrev pub invariant-loop-i : goal.invariant-loop-i
invariant-loop-i l = IfSome l.found (λ f. f.0 < length l.heads)
