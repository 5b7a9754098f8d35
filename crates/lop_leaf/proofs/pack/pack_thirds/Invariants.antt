use Rattle.std.proofs.Common.{◌≡◌, ℕ, ◌+◌, ◌-◌, ◌<◌}
use Rattle.lop_leaf.specs.Packing.{pack_triple, in_turn}
use Rattle.lop_leaf.specs.Table.{IsPacking, ArePassed, IsLater}
use Rattle.lop_leaf.proofs.pack.pack_thirds.Given as goal

abbrev pub invariant-loop-k : goal.invariant-loop-k
invariant-loop-k l = record {
  terms : l.rec.terms ≡ in_turn (l.j + 1) (l.k - (l.j + 1)) (pack_triple l.weights l.fixings.pairs l.i l.j) l.fn.rec.terms;
  packing : IsPacking l.weights l.fixings.pairs l.rec l.table;
  later : IsLater l.weights.size l.fn.rec l.fn.table l.rec l.table;
  passed : (k : ℕ) → l.j < k → k < l.k → ArePassed l.weights.size l.rec l.table l.i l.j k;
}
