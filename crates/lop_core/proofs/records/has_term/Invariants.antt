use Rattle.std.proofs.Common.{◌≡◌, false, take}
use Rattle.lop_core.specs.Records.{has_term}
use Rattle.lop_core.proofs.records.has_term.Given as goal

abbrev pub invariant-loop-other : goal.invariant-loop-other
invariant-loop-other l = has_term l.cuts (take l.other-index l.own) l.term ≡ false
