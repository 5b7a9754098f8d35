use Rattle.std.proofs.Common.{◌≡◌}
use Rattle.lop_ascent.proofs.PointLemmas.{AreWritten, AreWrittenTo}
use Rattle.lop_ascent.proofs.point.write_point.Given as goal

abbrev pub invariant-loop-j : goal.invariant-loop-j
invariant-loop-j l = record {
  size : l.into.size ≡ l.fn.into.size;
  done : AreWritten l.fixings.pairs l.into l.j;
}

abbrev pub invariant-loop-i : goal.invariant-loop-i
invariant-loop-i l = record {
  size : l.into.size ≡ l.fn.into.size;
  done : AreWrittenTo l.fixings.pairs l.into l.i l.j;
}
