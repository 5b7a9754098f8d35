use Rattle.std.proofs.Common.{◌+◌, ◌-◌, ◌/◌, ◌<◌, length, get_or, sym, ◌∙◌, arith}
use Rattle.std.specs.declared.cmp.Ordering.TheVariants.{Less, Greater}
use Rattle.lop_core.proofs.CutIndexLemmas.{less_below, greater_above, seen_order}
use Rattle.lop_core.proofs.cut_index.search.Goals as goal

pub loop-low-preserved-in-Less : goal.loop-low-preserved-in-Less
loop-low-preserved-in-Less c =
    let middle = c.loop-low.low + (c.loop-low.high - c.loop-low.low) / 2 in
    let inside : c.loop-low.low + (c.loop-low.high - c.loop-low.low) / 2 < length c.args.index.now = omega (arith, c.loop-low-test.true, c.loop-low.invariant.inside) in
    let low = c.requires.below middle 0 inside in
    record {
      ordered = omega (arith, c.loop-low-test.true);
      inside = c.loop-low.invariant.inside;
      less = less_below c.args.cuts.now c.args.index.now c.requires c.args.cut.now middle inside
          (seen_order c.args.cuts.now (get_or c.args.index.now middle 0) c.index-cuts-number.result c.args.cut.now Less low c.index-cuts-number.is (sym c.cmp.ensures.kind ∙ c.in-Less.is));
      greater = c.loop-low.invariant.greater;
    }

pub loop-low-preserved : goal.loop-low-preserved
loop-low-preserved c =
    let middle = c.loop-low.low + (c.loop-low.high - c.loop-low.low) / 2 in
    let inside : c.loop-low.low + (c.loop-low.high - c.loop-low.low) / 2 < length c.args.index.now = omega (arith, c.loop-low-test.true, c.loop-low.invariant.inside) in
    let low = c.requires.below middle 0 inside in
    record {
      ordered = omega (arith, c.loop-low-test.true);
      inside = omega (arith, c.loop-low-test.true, c.loop-low.invariant.inside);
      less = c.loop-low.invariant.less;
      greater = greater_above c.args.cuts.now c.args.index.now c.requires c.args.cut.now middle inside
          (seen_order c.args.cuts.now (get_or c.args.index.now middle 0) c.index-cuts-number.result c.args.cut.now Greater low c.index-cuts-number.is (sym c.cmp.ensures.kind ∙ c.in-Greater.is));
    }
