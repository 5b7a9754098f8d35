use Rattle.std.proofs.Common.{◌≡◌, ℕ, ◌<◌, []}
use Rattle.lop_leaf.specs.Packing.{pack_object, in_turn}
use Rattle.lop_leaf.specs.Table.{IsPacking, ArePassed}
use Rattle.lop_leaf.proofs.pack.pack_all.Given as goal

abbrev pub invariant-loop-i : goal.invariant-loop-i
invariant-loop-i l = record {
  terms : l.rec.terms ≡ in_turn 0 l.i (pack_object l.weights l.fixings.pairs) [];
  packing : IsPacking l.weights l.fixings.pairs l.rec l.table;
  passed : (i j k : ℕ) → i < l.i → i < j → j < k → k < l.weights.size → ArePassed l.weights.size l.rec l.table i j k;
}
