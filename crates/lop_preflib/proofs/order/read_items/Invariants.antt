use Rattle.std.proofs.Common.{map, length}
use Rattle.lop_preflib.specs.Line.{pieces_in}
use Rattle.lop_preflib.specs.Groups.{item_of}
use Rattle.lop_preflib.specs.Pieces.{pieces_left}
use Rattle.lop_preflib.proofs.ItemsLemmas.{AreRead}
use Rattle.lop_preflib.proofs.GroupsLemmas.{AreNumbered}
use Rattle.lop_preflib.proofs.order.read_items.Given as goal

abbrev pub invariant-loop-text : goal.invariant-loop-text
invariant-loop-text l = record {
  read : AreRead l.fn.n l.fn.number (map item_of (pieces_in l.fn.list)) (map item_of (pieces_left l.text-iterator)) l.ranking.objects.items l.seen;
  numbered : AreNumbered (pieces_in l.fn.list) (pieces_left l.text-iterator) (length l.ranking.objects.items) l.ranking.groups.items l.inside l.group;
}
