use Rattle.std.proofs.Common.{rules, arith}
use Rattle.lop_ascent.proofs.FewerLemmas.{fewer_itself, fewer_after}
use Rattle.lop_ascent.proofs.PlaceLemmas.{spans_fewer}
use Rattle.lop_ascent.proofs.hints.remove_idle.Goals as goal

pub loop-at-init : goal.loop-at-init
loop-at-init c = record { within = search rules; same = search rules; same_spans = search rules; spans = c.requires.spans; span_capacity = search rules; capacity = search rules; cut_capacity = search rules; fewer = fewer_itself c.args.cuts.now.items }

pub loop-at-preserved-then-is_idle : goal.loop-at-preserved-then-is_idle
loop-at-preserved-then-is_idle c = record {
  within = omega arith;
  same = omega arith;
  same_spans = omega arith;
  spans = spans_fewer _ _ _ _ _ c.loop-at.invariant.spans (omega arith) c.swap_remove-span.ensures.items;
  span_capacity = search rules;
  capacity = search rules;
  cut_capacity = search rules;
  fewer = fewer_after c.args.cuts.now.items c.loop-at.cuts.items _ _ _ c.loop-at.invariant.fewer (omega arith) c.swap_remove-cut.ensures.items;
}
