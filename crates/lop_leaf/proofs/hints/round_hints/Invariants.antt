use Rattle.std.proofs.Common.{◌≡◌}
use Rattle.lop_leaf.proofs.HintLemmas.{terms_before}
use Rattle.lop_leaf.proofs.hints.round_hints.Given as goal

abbrev pub invariant-loop-index : goal.invariant-loop-index
invariant-loop-index l = record {
  scale : l.rec.scale ≡ l.scale;
  terms : l.rec.terms ≡ terms_before l.shift l.scale l.cuts l.duals l.index;
}
