use Rattle.std.proofs.Common.{◌≡◌, ℕ, ◌+◌, ◌-◌, ◌<◌}
use Rattle.lop_leaf.specs.Packing.{pack_pair, in_turn}
use Rattle.lop_leaf.specs.Table.{IsPacking, ArePassed, IsLater}
use Rattle.lop_leaf.proofs.pack.pack_seconds.Given as goal

abbrev pub invariant-loop-j : goal.invariant-loop-j
invariant-loop-j l = record {
  terms : l.rec.terms ≡ in_turn (l.i + 1) (l.j - (l.i + 1)) (pack_pair l.weights l.fixings.pairs l.i) l.fn.rec.terms;
  packing : IsPacking l.weights l.fixings.pairs l.rec l.table;
  later : IsLater l.weights.size l.fn.rec l.fn.table l.rec l.table;
  passed : (j k : ℕ) → l.i < j → j < l.j → j < k → k < l.weights.size → ArePassed l.weights.size l.rec l.table l.i j k;
}
