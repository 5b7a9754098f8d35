use Rattle.std.proofs.Common.{◌≡◌, ◌⊎◌, ℕ, ◌<◌, length, take}
use Rattle.lop_model.specs.Cells.{cell}
use Rattle.lop_cuts.specs.Lagrangian.{charge}
use Rattle.lop_leaf.proofs.charges.clear_terms.Given as goal

abbrev pub invariant-loop-index : goal.invariant-loop-index
invariant-loop-index l = record {
  same_length : length l.table ≡ length l.fn.table;
  each : (a b : ℕ) → a < l.n → b < l.n → (cell l.table l.n a b ≡ 0) ⊎ ((cell l.table l.n a b ≡ charge l.rec.terms a b) × (charge (take l.index l.rec.terms) a b ≡ 0));
}
