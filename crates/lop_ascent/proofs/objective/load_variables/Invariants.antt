use Rattle.std.proofs.Common.{◌≡◌, length}
use Rattle.lop_ascent.proofs.objective.load_variables.Given as goal

abbrev pub invariant-loop-i : goal.invariant-loop-i
invariant-loop-i l = length l.variables ≡ length l.initial.variables

abbrev pub invariant-loop-j : goal.invariant-loop-j
invariant-loop-j l = length l.variables ≡ length l.initial.variables
