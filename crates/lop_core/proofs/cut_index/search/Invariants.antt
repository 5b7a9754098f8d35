use Rattle.std.proofs.Common.{◌≡◌, ◌-◌, ◌<◌, ◌≤◌, ℕ, length, get_or}
use Rattle.std.specs.declared.cmp.Ordering.TheVariants.{Less, Greater}
use Rattle.lop_core.specs.Records.{cut_at}
use Rattle.lop_core.specs.CutIndex.{cut_order}
use Rattle.lop_core.proofs.cut_index.search.Given as goal

abbrev pub invariant-loop-low : goal.invariant-loop-low
invariant-loop-low l = record {
  ordered : l.low ≤ l.high;
  inside : l.high ≤ length l.index;
  less : (k : ℕ) → k < l.low → cut_order (cut_at l.cuts (get_or l.index k 0)) l.cut ≡ Less;
  greater : (k : ℕ) → l.high ≤ k → k < length l.index → cut_order (cut_at l.cuts (get_or l.index k 0)) l.cut ≡ Greater;
}

abbrev pub decreases-loop-low : goal.decreases-loop-low
decreases-loop-low l = l.high - l.low
