use Rattle.std.proofs.Common.{take}
use Rattle.lop_core.proofs.MergeLemmas.{IsMerged}
use Rattle.lop_core.proofs.cut_index.merge_into.Given as goal

abbrev pub invariant-loop-left : goal.invariant-loop-left
invariant-loop-left l = IsMerged l.cuts (take l.known l.fn.list) l.fresh l.places l.low l.left l.list

abbrev pub decreases-loop-left : goal.decreases-loop-left
decreases-loop-left l = l.left
