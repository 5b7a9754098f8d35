-- The record of a ticket, lent to be written.
use Rattle.std.specs.Borrow.{Lends, MutBor, Fml}
use Rattle.lop_leaf.specs.Record.{ScaledTerms}
use Rattle.lop_leaf.specs.Ticket.{TicketFields}
use Rattle.lop_leaf.specs.contracts.ticket.Ticket.{the_row}
use Rattle.lop_leaf.specs.contracts.leaf_record.LeafRecord.{the_row as record_row}

-- the ticket ends with the record that was last written behind r
abbrev pub LendsRecord : MutBor TicketFields → MutBor ScaledTerms → Fml
LendsRecord t r = Lends the_row record_row t r (λ w. record t.now { inherited = w })
