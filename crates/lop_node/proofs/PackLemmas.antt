-- What a judge that packs owes, beside a sound result: the lesser bound, the first pair, and an order that extends the path.
use Rattle.std.proofs.Common.{◌≡◌, ◌⊎◌, ℕ, List, [], refl, sym, ◌∙◌, ap, subst, inl, inr, Some, None, ℤ, pos, ◌*ℤ◌, ◌≤ℤ◌, arith}
use Rattle.std.specs.Prelude.{Option}
use Rattle.std.proofs.lemmas.Int.{ints}
use Rattle.lop_model.specs.declared.pair.Pair.{Pair}
use Rattle.lop_model.specs.Order.{IsOrder}
use Rattle.lop_model.specs.Matrix.{Matrix, weight}
use Rattle.lop_model.specs.Bound.{pair_bound}
use Rattle.lop_model.specs.Fixings.{IsClosure, IsDecided, IsLinearExtension, AreAllDecided}
use Rattle.lop_model.proofs.FixingsLemmas.{IsLinearExtension-from_closure}
use Rattle.lop_model.proofs.ClosureLemmas.{IsClosure-itself, IsUndecided-closure}
use Rattle.lop_cuts.proofs.ClosureUnique.{IsClosure-unique}
use Rattle.lop_cuts.proofs.LagrangianLemmas.{lagrangian_value-plain}
use Rattle.lop_fix.specs.PartialOrder.{FixedPairs, IsPartialOrder, IsFirstUndecided}
use Rattle.lop_leaf.specs.Record.{ScaledTerms, no_terms, HasCutsBelow}
use Rattle.lop_leaf.specs.Bound.{record_value, IsQuotient, CertifiesUnder}
use Rattle.lop_leaf.specs.Packing.{packing_bound}
use Rattle.lop_leaf.specs.Ticket.{TicketFields}
use Rattle.lop_leaf.specs.Evaluated.{EvaluatedFields}
use Rattle.lop_leaf.specs.Sound.{IsSoundTicket, IsSoundResult}
use Rattle.lop_leaf.proofs.QuotientLemmas.{scaled_down}
use Rattle.lop_leaf.proofs.FallLemmas.{weight-decided}
use Rattle.lop_leaf.proofs.PathLemmas.{IsPartialOrder-closure, weight-le-certified_under}
use Rattle.lop_node.specs.Judged.{IsPackJudged, IsInheritedBound, IsLesserBound, IsFirstPair}
use Rattle.lop_node.proofs.SoundLemmas.{once, put_decided, put_open}

-- all that is shown of a result
pub record IsPackResult (C : Matrix) (t : TicketFields) (r : EvaluatedFields) : Type 0 where
  pub sound : IsSoundResult C t r
  pub judged : IsPackJudged C t.path r.bound r.pair r.value
  pub lesser : IsLesserBound C t r.bound
  pub pair : IsFirstPair C.size t.path r.pair
  pub extends : IsLinearExtension r.order t.path

-- ---- the bound

-- what a bound is at most, and which of the two it is
pub lesser_of : (C : Matrix) (t : TicketFields) (G : List Pair) (packed q bound : ℤ) → IsClosure t.path G → packed ≡ packing_bound C G → IsInheritedBound C t G q → bound ≤ℤ packed → bound ≤ℤ q → (bound ≡ packed) ⊎ (bound ≡ q) → IsLesserBound C t bound
lesser_of C t G packed q bound c ep quotient below_packed below_q one = record {
  packed = λ H d. subst (λ (F : List Pair). bound ≤ℤ packing_bound C F) (IsClosure-unique t.path G H c d) (subst (λ (x : ℤ). bound ≤ℤ x) ep below_packed);
  inherited = λ H x d other.
      let here : IsInheritedBound C t G x = subst (λ (F : List Pair). IsInheritedBound C t F x) (IsClosure-unique t.path H G d c) other in
      let most : q ≤ℤ x = scaled_down t.inherited.scale q (record_value C G t.inherited) x quotient.within here.next in
      omega (arith, ints);
  one_of = λ H d. elim one [
    | inl e ↦ inl (e ∙ ep ∙ ap (λ (F : List Pair). packing_bound C F) (IsClosure-unique t.path G H c d))
    | inr e ↦ inr (subst (λ (F : List Pair). IsInheritedBound C t F bound) (IsClosure-unique t.path G H c d) (subst (λ (x : ℤ). IsInheritedBound C t G x) (sym e) quotient))
  ];
}

both_ways : (a b : ℤ) → a ≤ℤ b → b ≤ℤ a → a ≡ b
both_ways a b h k = omega (arith, ints)

-- where all pairs are decided, the weight is the packing bound, and no quotient is less
pub lesser_decided : (C : Matrix) (t : TicketFields) (G : List Pair) (s : List ℕ) (packed q : ℤ) → IsSoundTicket C t → IsClosure t.path G → AreAllDecided C.size G → IsOrder C.size s → IsLinearExtension s G → packed ≡ packing_bound C G → weight C s ≤ℤ packed → packed ≤ℤ pair_bound C G → IsInheritedBound C t G q → IsLesserBound C t (weight C s)
lesser_decided C t G s packed q ticket c all order extends ep most at_most quotient =
    let partial : IsPartialOrder (record { size = C.size; pairs = G }) = IsPartialOrder-closure C.size t.path G ticket.branching c in
    let exact : pos 1 *ℤ weight C s ≡ record_value C G no_terms = weight-decided C (record { size = C.size; pairs = G }) 1 [] s partial all refl order extends in
    let is : weight C s ≡ pair_bound C G = sym (once (weight C s)) ∙ exact ∙ lagrangian_value-plain C G in
    let same : weight C s ≡ packed = both_ways (weight C s) packed most (subst (λ (x : ℤ). packed ≤ℤ x) (sym is) at_most) in
    let certified : CertifiesUnder C t.path t.inherited q = record { each = λ H d. (subst (λ (F : List Pair). IsInheritedBound C t F q) (IsClosure-unique t.path G H c d) quotient).next } in
    let on_path : IsLinearExtension s t.path = IsLinearExtension-from_closure s t.path G c extends in
    let below : weight C s ≤ℤ q = weight-le-certified_under C t.path t.inherited q s ticket.branching ticket.cuts certified order on_path in
    lesser_of C t G packed q (weight C s) c ep quotient most below (inl same)

-- ---- the pair

-- what is decided under the closure is so under the path
on_path : (F G : List Pair) (a b : ℕ) → IsClosure F G → IsDecided G a b → IsDecided F a b
on_path F G a b c (inl r) = inl ((c.each a b).0 (((IsClosure-itself F G c).each a b).1 r))
on_path F G a b c (inr r) = inr ((c.each b a).0 (((IsClosure-itself F G c).each b a).1 r))

pub first_on_path : (n : ℕ) (path G : List Pair) (p : Pair) → IsClosure path G → IsFirstUndecided n G p.before p.after → IsFirstPair n path (Some p)
first_on_path n path G p c first = record {
  some = record {
    rising = first.rising;
    undecided = IsUndecided-closure n path G p.before p.after c first.undecided;
    rows_before = λ a b l m k. on_path path G a b c (first.rows_before a b l m k);
    row_before = λ b l m. on_path path G p.before b c (first.row_before b l m);
  };
  none = tt;
}

pub none_on_path : (n : ℕ) (path G : List Pair) → IsClosure path G → AreAllDecided n G → IsFirstPair n path None
none_on_path n path G c all = record {
  some = tt;
  none = record { each = λ a b l m. on_path path G a b c (all.each a b l m) };
}

-- ---- a result as it was put

pub all_decided_put : (C : Matrix) (t : TicketFields) (f : FixedPairs) (s : List ℕ) (packed q : ℤ) (r : EvaluatedFields) (node : ℕ) (bound value : ℤ) (shown : ScaledTerms) → r ≡ record { node = node; bound = bound; pair = None; shown = shown; order = s; value = value }
    → node ≡ t.node → shown ≡ no_terms → bound ≡ weight C s → value ≡ weight C s → f.size ≡ C.size → IsSoundTicket C t → IsClosure t.path f.pairs → AreAllDecided f.size f.pairs → IsOrder f.size s → IsLinearExtension s f.pairs → packed ≡ packing_bound C f.pairs → weight C s ≤ℤ packed
    → packed ≤ℤ pair_bound C f.pairs → IsInheritedBound C t f.pairs q → IsPackResult C t r
all_decided_put C t f s packed q r node bound value shown e en es eb ev size ticket c all order extends ep most at_most quotient =
    let both = put_decided C t f s packed r node bound value shown e en es eb ev size ticket c all order extends ep most in
    let decided : AreAllDecided C.size f.pairs = subst (λ n. AreAllDecided n f.pairs) size all in
    let orders : IsOrder C.size s = subst (λ n. IsOrder n s) size order in
    let lesser : IsLesserBound C t (weight C s) = lesser_decided C t f.pairs s packed q ticket c decided orders extends ep most at_most quotient in
    record {
      sound = both.0;
      judged = both.1;
      lesser = subst (λ (x : ℤ). IsLesserBound C t x) (sym (ap (λ (u : EvaluatedFields). u.bound) e ∙ eb)) lesser;
      pair = subst (λ (o : Option Pair). IsFirstPair C.size t.path o) (sym (ap (λ (u : EvaluatedFields). u.pair) e)) (none_on_path C.size t.path f.pairs c decided);
      extends = subst (λ (x : List ℕ). IsLinearExtension x t.path) (sym (ap (λ (u : EvaluatedFields). u.order) e)) (IsLinearExtension-from_closure s t.path f.pairs c extends);
    }

pub open_put : (C : Matrix) (t : TicketFields) (f : FixedPairs) (s : List ℕ) (p : Pair) (packed q b : ℤ) (record_shown : ScaledTerms) (r : EvaluatedFields) (node : ℕ) (bound value : ℤ) (shown : ScaledTerms) → r ≡ record { node = node; bound = bound; pair = Some p; shown = shown; order = s; value = value }
    → node ≡ t.node → shown ≡ record_shown → bound ≡ b → value ≡ weight C s → f.size ≡ C.size → IsClosure t.path f.pairs → IsFirstUndecided f.size f.pairs p.before p.after → IsOrder f.size s
    → HasCutsBelow C.size record_shown.terms → IsQuotient (record_value C f.pairs record_shown) record_shown.scale b → b ≤ℤ t.bound → packed ≡ packing_bound C f.pairs → b ≤ℤ packed
    → IsLinearExtension s f.pairs → IsInheritedBound C t f.pairs q → b ≤ℤ q → (b ≡ packed) ⊎ (b ≡ q) → IsPackResult C t r
open_put C t f s p packed q b record_shown r node bound value shown e en es eb ev size c first order cuts quotient no_more ep most extends inherited below one =
    let both = put_open C t f s p packed b record_shown r node bound value shown e en es eb ev size c first order cuts quotient no_more ep most in
    let firsts : IsFirstUndecided C.size f.pairs p.before p.after = subst (λ n. IsFirstUndecided n f.pairs p.before p.after) size first in
    record {
      sound = both.0;
      judged = both.1;
      lesser = subst (λ (x : ℤ). IsLesserBound C t x) (sym (ap (λ (u : EvaluatedFields). u.bound) e ∙ eb)) (lesser_of C t f.pairs packed q b c ep inherited most below one);
      pair = subst (λ (o : Option Pair). IsFirstPair C.size t.path o) (sym (ap (λ (u : EvaluatedFields). u.pair) e)) (first_on_path C.size t.path f.pairs p c firsts);
      extends = subst (λ (x : List ℕ). IsLinearExtension x t.path) (sym (ap (λ (u : EvaluatedFields). u.order) e)) (IsLinearExtension-from_closure s t.path f.pairs c extends);
    }
