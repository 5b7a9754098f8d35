use Rattle.lop_preflib.specs.Line.{pieces_in}
use Rattle.lop_preflib.specs.Pieces.{pieces_left}
use Rattle.lop_preflib.proofs.GroupsLemmas.{AreGood}
use Rattle.lop_preflib.proofs.groups.has_bad_pieces.Given as goal

abbrev pub invariant-loop-text : goal.invariant-loop-text
invariant-loop-text l = AreGood (pieces_in l.fn.list) (pieces_left l.text-iterator) l.inside
