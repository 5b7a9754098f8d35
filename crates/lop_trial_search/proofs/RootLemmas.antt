-- The ticket of a root is sound: nothing is on its path, and the pair bound is certified without a term.
use Rattle.std.proofs.Common.{◌≡◌, ℕ, [], List, sym, ap, ◌∙◌, subst, ℤ, pos, ◌+ℤ◌, ◌*ℤ◌, ◌<ℤ◌, arith}
use Rattle.std.proofs.lemmas.Int.{ints}
use Rattle.lop_model.specs.declared.pair.Pair.{Pair}
use Rattle.lop_model.specs.Matrix.{Matrix}
use Rattle.lop_model.proofs.ClosureLemmas.{IsClosure-none}
use Rattle.lop_leaf.specs.Record.{ScaledTerms, no_terms}
use Rattle.lop_leaf.specs.Bound.{record_value}
use Rattle.lop_leaf.specs.Ticket.{TicketFields}
use Rattle.lop_leaf.specs.Sound.{IsSoundTicket}
use Rattle.lop_cuts.proofs.ClosureUnique.{IsClosure-unique}
use Rattle.lop_node.proofs.SoundLemmas.{once}

below_next : (u b v : ℤ) → u ≡ b → v ≡ b +ℤ pos 1 → u <ℤ v
below_next u b v e f = omega (arith, ints)

pub root_ticket : (C : Matrix) (t : TicketFields) → t.size ≡ C.size → t.path ≡ [] → t.inherited ≡ no_terms → t.bound ≡ record_value C [] no_terms → IsSoundTicket C t
root_ticket C t size path inherited bound = record {
  same_size = size;
  branching = rw path (record { each = λ i p l. absurd (omega arith) });
  cuts = rw inherited (record { cuts = λ k d l. absurd (omega arith); fit = λ k d l. absurd (omega arith) });
  certified = rw (path, inherited) (record {
    each = λ G c.
        subst (λ (F : List Pair). record_value C F no_terms <ℤ (pos 1 *ℤ (t.bound +ℤ pos 1))) (IsClosure-unique [] [] G IsClosure-none c)
        (below_next (record_value C [] no_terms) t.bound (pos 1 *ℤ (t.bound +ℤ pos 1)) (sym bound) (once (t.bound +ℤ pos 1)));
  });
}

-- the same as it was filled
pub filled_root : (C : Matrix) (t : TicketFields) (size node : ℕ) (bound best : ℤ) (path pairs : List Pair) (rec : ScaledTerms) → t ≡ record { size = size; node = node; bound = bound; best = best; path = path; inherited = rec } → size ≡ C.size → path ≡ [] → rec ≡ no_terms → pairs ≡ [] → bound ≡ record_value C pairs rec → IsSoundTicket C t
filled_root C t size node bound best path pairs rec e es ep er eg eb =
    root_ticket C t (ap (λ (u : TicketFields). u.size) e ∙ es) (ap (λ (u : TicketFields). u.path) e ∙ ep) (ap (λ (u : TicketFields). u.inherited) e ∙ er)
    (ap (λ (u : TicketFields). u.bound) e ∙ eb ∙ ap (λ (F : List Pair). record_value C F rec) eg ∙ ap (λ (r : ScaledTerms). record_value C [] r) er)
