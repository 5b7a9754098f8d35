use Rattle.std.proofs.Common.{◌∙◌, ap, sym, length}
use Rattle.std.proofs.lemmas.List.FromFn.{length-range_with_len}
use Rattle.lop_climb.proofs.room.ClimbRoom.new.Goals as goal

pub invariant_of-result : goal.invariant_of-result
invariant_of-result c = c.in_ok-surpluses.ensures ∙ sym (ap length c.in_ok-order.ensures ∙ length-range_with_len 0 c.args.n)
