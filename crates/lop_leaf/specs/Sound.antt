use Rattle.std.specs.Prelude.{◌≡◌, List, ◌≤ℤ◌, IfSome, IfNone}
use Rattle.lop_model.specs.declared.pair.Pair.{Pair}
use Rattle.lop_model.specs.Order.{IsOrder}
use Rattle.lop_model.specs.Matrix.{Matrix, weight}
use Rattle.lop_model.specs.Fixings.{IsClosure, IsUndecided, IsBranchingPath, IsLinearExtension, AreAllDecided}
use Rattle.lop_leaf.specs.Record.{no_terms, HasCutsBelow}
use Rattle.lop_leaf.specs.Bound.{record_value, IsQuotient, CertifiesUnder}
use Rattle.lop_leaf.specs.Packing.{packing_bound}
use Rattle.lop_leaf.specs.Ticket.{TicketFields}
use Rattle.lop_leaf.specs.Evaluated.{EvaluatedFields}

-- a ticket's path is a branching path, and its record, of cuts of the objects, certifies its bound
pub record IsSoundTicket (C : Matrix) (t : TicketFields) : Type 0 where
  pub same_size : t.size ≡ C.size
  pub branching : IsBranchingPath C.size t.path
  pub cuts : HasCutsBelow C.size t.inherited.terms
  pub certified : CertifiesUnder C t.path t.inherited t.bound

-- no pair is left to branch on: the order extends the path, and its weight is the bound
pub record IsDecidedResult (C : Matrix) (t : TicketFields) (r : EvaluatedFields) : Type 0 where
  pub decided : AreAllDecided C.size t.path
  pub shown : r.shown ≡ no_terms
  pub extends : IsLinearExtension r.order t.path
  pub exact : r.value ≡ r.bound

-- what a judge owes for a ticket: a record whose value under the path gives the bound, which is at most the ticket's and
-- the packing bound; an order with its weight; and a pair to branch on, or none where all are decided
pub record IsSoundResult (C : Matrix) (t : TicketFields) (r : EvaluatedFields) : Type 0 where
  pub node : r.node ≡ t.node
  pub cuts : HasCutsBelow C.size r.shown.terms
  pub bound : (G : List Pair) → IsClosure t.path G → IsQuotient (record_value C G r.shown) r.shown.scale r.bound
  pub no_more : r.bound ≤ℤ t.bound
  pub packed : (G : List Pair) → IsClosure t.path G → r.bound ≤ℤ packing_bound C G
  pub order : IsOrder C.size r.order
  pub value : r.value ≡ weight C r.order
  pub undecided : IfSome r.pair (λ p. IsUndecided C.size t.path p.before p.after)
  pub all_decided : IfNone r.pair (IsDecidedResult C t r)
