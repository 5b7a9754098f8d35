use Rattle.std.proofs.Common.{◌∙◌, ap, length}
use Rattle.std.proofs.lemmas.List.FromFn.{length-range_with_len}
use Rattle.lop_leaf.specs.Ticket.{TicketFields}
use Rattle.lop_leaf.specs.Evaluated.{EvaluatedFields}
use Rattle.lop_pool.proofs.parcel.Parcel.new.Goals as goal

pub returns : goal.returns
returns c = record {
  ticket = ap (λ (t : TicketFields). t.size) c.in_ok-new.ensures;
  found = ap (λ (e : EvaluatedFields). length e.order) c.in_ok-new-2.ensures ∙ length-range_with_len 0 c.args.n;
}
