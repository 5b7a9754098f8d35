-- What a judge owes that gives the packing bound under the path, with the record that shows it, and the first undecided pair.
use Rattle.std.proofs.Common.{◌≡◌, ◌≢◌, ℕ, ◌<◌, List, refl, ◌∙◌, ap, Some, false, arith, ℤ, pos, ◌+ℤ◌, ◌*ℤ◌, ◌≤ℤ◌}
use Rattle.std.specs.Prelude.{int_lt}
use Rattle.std.specs.List.{All}
use Rattle.std.proofs.Math.IntN.{suc_ℤ-*ℤ, zero-*ℤ}
use Rattle.std.proofs.lemmas.Int.{ints}
use Rattle.lop_model.specs.declared.pair.Pair.{Pair}
use Rattle.lop_model.specs.Order.{IsOrder}
use Rattle.lop_model.specs.Matrix.{Matrix, weight}
use Rattle.lop_model.specs.Fixings.{IsClosure, IsBranchingPath}
use Rattle.lop_model.proofs.ClosureLemmas.{IsUndecided-closure}
use Rattle.lop_fix.specs.PartialOrder.{IsFirstUndecided}
use Rattle.lop_leaf.specs.Record.{ScaledTerms, HasCutsBelow}
use Rattle.lop_leaf.specs.Bound.{record_value, IsQuotient}
use Rattle.lop_leaf.specs.Packing.{packed, packing_bound}
use Rattle.lop_leaf.specs.Ticket.{TicketFields}
use Rattle.lop_leaf.specs.Sound.{IsSoundTicket, IsSoundResult}
use Rattle.lop_cuts.proofs.ClosureUnique.{IsClosure-unique}

-- the pairs of a branching path are of two objects each
pub path_objects : (n : ℕ) (path : List Pair) → IsBranchingPath n path → All (λ p. (p.before < n) × (p.after < n) × (p.before ≢ p.after)) path
path_objects n path h k d l = let u = h.each k d l in (u.first, u.second, u.differ)

once : (x : ℤ) → pos 1 *ℤ x ≡ x
once x =
    let one : pos 1 *ℤ x ≡ pos 0 *ℤ x +ℤ x = suc_ℤ-*ℤ (pos 0) x in
    omega (arith, ints, zero-*ℤ x)

-- at scale 1 the quotient is the value
whole_quotient : (u q : ℤ) (scale : ℕ) → scale ≡ 1 → q ≡ u → IsQuotient u scale q
whole_quotient u q scale es e = rw (es, e) (record { within = rw (once u) (omega (arith, ints)); next = rw (once (u +ℤ pos 1)) (omega (arith, ints)) })

-- a bound that doesn't exceed the ticket's
pub at_most : (x y z : ℤ) → int_lt x y ≡ false → x ≡ z → y ≤ℤ z
at_most x y z e same = grind (arith, ints)

-- such a result is sound
pub judged : (C : Matrix) (t : TicketFields) (G : List Pair) (bound : ℤ) (pair : Pair) (shown : ScaledTerms) (order : List ℕ) (value : ℤ) → IsSoundTicket C t → IsClosure t.path G
    → bound ≡ packing_bound C G → bound ≡ record_value C G shown → shown ≡ packed C G → HasCutsBelow C.size shown.terms → bound ≤ℤ t.bound
    → IsFirstUndecided C.size G pair.before pair.after → IsOrder C.size order → value ≡ weight C order
    → IsSoundResult C t (record { node = t.node; bound = bound; pair = Some pair; shown = shown; order = order; value = value })
judged C t G bound pair shown order value sound c ep er es cuts le first o ev = record {
  node = refl;
  cuts = cuts;
  bound = λ H d.
      let same : G ≡ H = IsClosure-unique t.path G H c d in
      whole_quotient (record_value C H shown) bound shown.scale (ap (λ (r : ScaledTerms). r.scale) es) (er ∙ ap (λ (F : List Pair). record_value C F shown) same);
  no_more = le;
  packed = λ H d.
      let e : bound ≡ packing_bound C H = ep ∙ ap (packing_bound C) (IsClosure-unique t.path G H c d) in
      omega (arith, ints);
  order = o;
  value = ev;
  undecided = IsUndecided-closure C.size t.path G pair.before pair.after c first.undecided;
  all_decided = tt;
}
