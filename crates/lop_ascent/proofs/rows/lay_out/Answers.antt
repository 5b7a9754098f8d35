use Rattle.std.proofs.Common.{arith, length}
use Rattle.lop_ascent.proofs.PlaceLemmas.{spans_push, spans_more}
use Rattle.lop_ascent.proofs.rows.lay_out.Goals as goal

pub loop-span-preserved : goal.loop-span-preserved
loop-span-preserved c =
    let into = c.copy_entries-laid.new.to in
    let before = c.loop-span.into in
    let old = c.loop-span.to in
    let new = c.push_span.new.spans in
    record {
      len = omega (arith, c.push_span.ensures.len, c.loop-span.invariant.len);
      laid_out = record {
        few = omega (arith, c.loop-span.invariant.laid_out.few, c.copy_entries-laid.ensures.few, c.push_span.ensures.len, into.ok, before.ok, old.ok, new.ok);
        spans = spans_push (length into.items) old.items new.items c.copy_entries-laid.result c.push_span.ensures.items
            (spans_more (length before.items) (length into.items) old.items (omega (arith, c.copy_entries-laid.ensures.more, into.ok, before.ok)) c.loop-span.invariant.laid_out.spans)
            (omega (arith, c.copy_entries-laid.ensures.span, into.ok));
        places = λ cells h. c.copy_entries-laid.ensures.places cells h (c.loop-span.invariant.laid_out.places cells h);
      };
      to_room = omega (arith, c.push_span.ensures.capacity, c.loop-span.invariant.to_room);
      into_room = c.copy_entries-laid.ensures.capacity;
    }
