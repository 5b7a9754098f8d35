use Rattle.std.proofs.Common.{rules, ◌∙◌, arith}
use Rattle.lop_ascent.proofs.PointLemmas.{none_written, row_begun, row_written, write_next, all_written}
use Rattle.lop_ascent.proofs.point.write_point.Goals as goal

pub loop-j-init : goal.loop-j-init
loop-j-init c = record { size = search rules; done = none_written _ _ }

pub loop-i-init : goal.loop-i-init
loop-i-init c = record { size = c.loop-j.invariant.size; done = row_begun _ _ _ c.loop-j.invariant.done }

pub loop-i-preserved : goal.loop-i-preserved
loop-i-preserved c = record {
  size = c.write_pair.ensures.size ∙ c.loop-i.invariant.size;
  done = write_next _ _ _ c.loop-i.i c.loop-j.j c.write_pair.ensures (omega arith) (omega (arith, c.loop-i.invariant.size)) c.loop-i.invariant.done;
}

pub loop-j-preserved : goal.loop-j-preserved
loop-j-preserved c = record {
  size = c.loop-i.invariant.size;
  done = row_written _ _ c.loop-i.i c.loop-j.j (omega arith) c.loop-i.invariant.done;
}

pub returns-clause-fixed : goal.returns-clause-fixed
returns-clause-fixed c = all_written c.args.fixings.now c.loop-j.into c.loop-j.j c.n.ensures.partial_order (omega (arith, c.loop-j.invariant.size, c.n-n.ensures.size)) c.loop-j.invariant.done
