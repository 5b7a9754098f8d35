use Rattle.lop_desk.proofs.Files.{IsDistinctBefore}
use Rattle.lop_desk.proofs.memory.has_distinct_names.Given as goal

abbrev pub invariant-loop-i : goal.invariant-loop-i
invariant-loop-i l = IsDistinctBefore l.files l.i
