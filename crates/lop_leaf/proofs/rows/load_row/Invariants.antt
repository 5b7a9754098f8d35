use Rattle.std.proofs.Common.{◌≡◌, ℕ, ◌<◌, length, get_or, pos}
use Rattle.lop_leaf.specs.Table.{way}
use Rattle.lop_leaf.proofs.rows.load_row.Given as goal

abbrev pub invariant-loop-j : goal.invariant-loop-j
invariant-loop-j l = record {
  same_length : length l.forth ≡ length l.fn.forth;
  same_length_back : length l.back ≡ length l.fn.back;
  forth : (j : ℕ) → l.i < j → j < l.j → get_or l.forth j (pos 0) ≡ way l.weights l.fixings.pairs l.i j;
  back : (j : ℕ) → l.i < j → j < l.j → get_or l.back j (pos 0) ≡ way l.weights l.fixings.pairs j l.i;
}
