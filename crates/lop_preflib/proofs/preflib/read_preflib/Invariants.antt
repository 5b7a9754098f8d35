use Rattle.lop_preflib.specs.Text.{lines_of}
use Rattle.lop_preflib.proofs.ReadingLemmas.{AreGathered}
use Rattle.lop_preflib.proofs.preflib.read_preflib.Given as goal

abbrev pub invariant-loop-line : goal.invariant-loop-line
invariant-loop-line l = AreGathered (lines_of l.fn.bytes) (lines_of l.line-iterator.rest.now) l.number l.gathered
