use Rattle.std.proofs.Common.{◌≡◌, take}
use Rattle.lop_core.specs.Records.{terms_of}
use Rattle.lop_core.proofs.records.read_terms.Given as goal

abbrev pub invariant-loop-term : goal.invariant-loop-term
invariant-loop-term l = record {
  scale : l.into.scale ≡ l.initial.into.scale;
  so_far : l.into.terms ≡ terms_of l.cuts (take l.term-index l.terms);
}
