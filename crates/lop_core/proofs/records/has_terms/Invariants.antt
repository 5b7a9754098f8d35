use Rattle.std.proofs.Common.{◌≡◌, true, take}
use Rattle.std.specs.List.{list_all}
use Rattle.lop_core.specs.Records.{has_term}
use Rattle.lop_core.proofs.records.has_terms.Given as goal

abbrev pub invariant-loop-index : goal.invariant-loop-index
invariant-loop-index l = list_all (λ t. has_term l.cuts l.own t) (take l.index l.shown.terms) ≡ true
