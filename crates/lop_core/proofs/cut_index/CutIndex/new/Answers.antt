use Rattle.std.proofs.Common.{[], rules, arith}
use Rattle.lop_core.specs.Records.{AreDifferentCuts}
use Rattle.lop_core.specs.CutIndex.{IsCutIndex}
use Rattle.lop_core.proofs.MergeLemmas.{pending_none}
use Rattle.lop_core.proofs.cut_index.CutIndex.new.Goals as goal

no_cuts : AreDifferentCuts []
no_cuts = search rules

no_index : IsCutIndex [] []
no_index = search rules

pub invariant_of-result : goal.invariant_of-result
invariant_of-result c =
    let cuts = c.in_ok-with_capacity.ensures.items in
    let index = c.in_ok-with_capacity-2.ensures.items in
    let fresh = c.in_ok-with_capacity-3.ensures.items in
    let places = c.in_ok-with_capacity-4.ensures.items in
    rw (cuts, index, fresh, places) (
      no_cuts,
      pending_none [] [] no_index,
      omega (arith, c.in_ok-with_capacity-2.ensures.exact),
      record {
        few = omega arith;
        for_cuts = omega (arith, c.in_ok-with_capacity.ensures.exact);
        for_fresh = omega (arith, c.in_ok-with_capacity-3.ensures.exact);
        for_places = omega (arith, c.in_ok-with_capacity-4.ensures.exact);
      },
    )
