-- Closures of branching paths, and the bounds that they give: what a node's children inherit.
use Rattle.std.proofs.Common.{◌≡◌, ℕ, zero, suc, ◌+◌, ◌<◌, ◌≤◌, Bool, eqb, ltb, ◌&&◌, ◌||◌, List, [], ◌∷◌, ◌++◌, length, take, get_or, refl, sym, ◌∙◌, subst, ℤ, pos, ◌+ℤ◌, ◌*ℤ◌, ◌≤ℤ◌, ◌<ℤ◌, arith}
use Rattle.std.specs.Prelude.{IsTrue}
use Rattle.std.proofs.lemmas.List.{take_more, take_all}
use Rattle.std.proofs.lemmas.Int.{ints}
use Rattle.std.proofs.lemmas.Bool.Decides.{nat_tests}
use Rattle.lop_model.specs.declared.pair.Pair.{Pair}
use Rattle.lop_model.specs.Order.{IsOrder}
use Rattle.lop_model.specs.Matrix.{Matrix, weight}
use Rattle.lop_model.specs.Fixings.{has_pair, one_pair, pair_then, IsClosure, IsUndecided, IsBranchingPrefix, IsBranchingPath, IsLinearExtension}
use Rattle.lop_model.proofs.FixingsLemmas.{IsLinearExtension-closure}
use Rattle.lop_model.proofs.ClosureLemmas.{closed_more, no_cycle_more, chain-more, IsClosure-itself, IsClosure-none}
use Rattle.lop_cuts.proofs.LagrangianLemmas.{lagrangian_value-more, weight-le-certified, AreValid-AreCuts}
use Rattle.lop_fix.specs.PartialOrder.{IsPartialOrder}
use Rattle.lop_model.specs.Related.{pairs_of}
use Rattle.lop_model.specs.Related.{pair}
use Rattle.lop_model.proofs.RelatedPairs.{has_pair-pairs_of}
use Rattle.lop_cuts.proofs.ClosureUnique.{has_pair-closures}
use Rattle.lop_model.proofs.RisingPairs.{pairs_of-rising}
use Rattle.lop_fix.proofs.TableFixings.{has_pair-below, IsPartialOrder-none}
use Rattle.lop_leaf.specs.Record.{ScaledTerms, HasCutsBelow}
use Rattle.lop_leaf.specs.Bound.{record_value, CertifiesUnder}
use Rattle.lop_leaf.specs.Ticket.{TicketFields}
use Rattle.lop_leaf.specs.Evaluated.{EvaluatedFields}
use Rattle.lop_leaf.specs.Sound.{IsSoundTicket, IsSoundResult}

-- ---- one more pair

-- what F's closed pairs and the pair p relate
abbrev related_more : List Pair → Pair → ℕ → ℕ → Bool
related_more G p x y = has_pair G x y || ((eqb x p.before || has_pair G x p.before) && (eqb y p.after || has_pair G p.after y))

below_both : (g f h e k : Bool) (x y n : ℕ) → (IsTrue g → (x < n) × (y < n)) → (IsTrue (f || h) → x < n) → (IsTrue (e || k) → y < n) → ((ltb x n && ltb y n) && (g || ((f || h) && (e || k)))) ≡ (g || ((f || h) && (e || k)))
below_both g f h e k x y n p q r = grind (arith, nat_tests)

row_below : (x a n : ℕ) (h : Bool) → a < n → (IsTrue h → x < n) → IsTrue (eqb x a || h) → x < n
row_below x a n h l p t = grind (arith, nat_tests)

-- the closure of G and p, where G is closed
abbrev more_pairs : ℕ → List Pair → Pair → List Pair
more_pairs n G p = pairs_of n (related_more G p)

module _ (n : ℕ) (F G : List Pair) (p : Pair) (closure : IsClosure F G) (is : IsPartialOrder (record { size = n; pairs = G })) (undecided : IsUndecided n F p.before p.after) where
  joined : (x y : ℕ) → has_pair (more_pairs n G p) x y ≡ related_more G p x y
  joined x y =
      has_pair-pairs_of n (related_more G p) x y
      ∙ below_both (has_pair G x y) (eqb x p.before) (has_pair G x p.before) (eqb y p.after) (has_pair G p.after y) x y n
      (is.below x y)
      (row_below x p.before n (has_pair G x p.before) undecided.first (λ t. (is.below x p.before t).0))
      (row_below y p.after n (has_pair G p.after y) undecided.second (λ t. (is.below p.after y t).1))

  closure_more : IsClosure (F ++ p ∷ []) (more_pairs n G p)
  closure_more = record { each = closed_more (has_pair G) (has_pair (more_pairs n G p)) p F closure.each joined; rising = pairs_of-rising n (related_more G p) }

  order_more : IsPartialOrder (record { size = n; pairs = more_pairs n G p })
  order_more =
      let closed = IsClosure-itself (F ++ p ∷ []) (more_pairs n G p) closure_more in
      record {
        closed = closed;
        below = has_pair-below n (related_more G p);
        no_cycle = λ a r.
            no_cycle_more (has_pair G) (has_pair (more_pairs n G p)) p F closure.each joined undecided.differ
            (λ t. undecided.not_after ((closure.each p.after p.before).0 t)) (λ x t. is.no_cycle x (one_pair t)) a ((closed.each a a).1 r);
      }

-- ---- a branching path has a closure, and it is a partial order

pub record ClosedOrder (n : ℕ) (F : List Pair) : Type 0 where
  pub pairs : List Pair
  pub closure : IsClosure F pairs
  pub order : IsPartialOrder (record { size = n; pairs = pairs })

closed_more_order : (n : ℕ) (F : List Pair) (p : Pair) → ClosedOrder n F → IsUndecided n F p.before p.after → ClosedOrder n (F ++ p ∷ [])
closed_more_order n F p c u = record {
  pairs = more_pairs n c.pairs p;
  closure = closure_more n F c.pairs p c.closure c.order u;
  order = order_more n F c.pairs p c.closure c.order u;
}

closed_prefix : (n : ℕ) (path : List Pair) (k : ℕ) → k ≤ length path → IsBranchingPrefix n path k → ClosedOrder n (take k path)
closed_prefix n path zero l h = record { pairs = []; closure = IsClosure-none; order = IsPartialOrder-none (record { size = n; pairs = [] }) refl }
closed_prefix n path (suc k) l h =
    let p : Pair = get_or path k (pair 0 0) in
    let before : ClosedOrder n (take k path) = closed_prefix n path k (omega arith) (record { each = λ i d m. h.each i d (omega arith) }) in
    let next : ClosedOrder n (take k path ++ p ∷ []) = closed_more_order n (take k path) p before (h.each k (pair 0 0) (omega arith)) in
    let step : k + 1 ≡ suc k = omega arith in
    subst (λ (j : ℕ). ClosedOrder n (take j path)) step (subst (λ (F : List Pair). ClosedOrder n F) (sym (take_more path k (pair 0 0) (omega arith))) next)

pub ClosedOrder-path : (n : ℕ) (path : List Pair) → IsBranchingPath n path → ClosedOrder n path
ClosedOrder-path n path h = subst (λ (F : List Pair). ClosedOrder n F) (take_all (length path) path (omega arith)) (closed_prefix n path (length path) (omega arith) h)

-- every closure of a branching path is a partial order
pub IsPartialOrder-closure : (n : ℕ) (path G : List Pair) → IsBranchingPath n path → IsClosure path G → IsPartialOrder (record { size = n; pairs = G })
IsPartialOrder-closure n path G h c =
    let own = ClosedOrder-path n path h in
    record {
      closed = IsClosure-itself path G c;
      below = λ a b t. own.order.below a b (has_pair-closures path own.pairs G a b own.closure c ∙ t);
      no_cycle = λ a r. own.order.no_cycle a (one_pair ((own.closure.each a a).1 ((c.each a a).0 (((IsClosure-itself path G c).each a a).1 r))));
    }

-- ---- what is certified

-- no order that extends the path weighs more than what is certified under it
pub weight-le-certified_under : (C : Matrix) (path : List Pair) (r : ScaledTerms) (b : ℤ) (s : List ℕ) → IsBranchingPath C.size path → HasCutsBelow C.size r.terms → CertifiesUnder C path r b → IsOrder C.size s → IsLinearExtension s path → weight C s ≤ℤ b
weight-le-certified_under C path r b s h cuts certified o x =
    let own = ClosedOrder-path C.size path h in
    weight-le-certified C own.pairs r.scale r.terms b s o (IsLinearExtension-closure s path own.pairs own.closure x) (AreValid-AreCuts C.size r.terms cuts.cuts) (certified.each own.pairs own.closure)

below_more : (x y z : ℤ) → x ≤ℤ y → y <ℤ z → x <ℤ z
below_more x y z h k = omega (arith, ints)

-- what is certified under a path is so under a longer one
pub CertifiesUnder-more : (C : Matrix) (path more : List Pair) (r : ScaledTerms) (b : ℤ) → IsBranchingPath C.size path → IsBranchingPath C.size (path ++ more) → CertifiesUnder C path r b → CertifiesUnder C (path ++ more) r b
CertifiesUnder-more C path more r b h k certified = record {
  each = λ G c.
      let own = ClosedOrder-path C.size path h in
      let longer : IsPartialOrder (record { size = C.size; pairs = G }) = IsPartialOrder-closure C.size (path ++ more) G k c in
      below_more (record_value C G r) (record_value C own.pairs r) (pos r.scale *ℤ (b +ℤ pos 1))
      (lagrangian_value-more C own.pairs G r.scale r.terms (λ a d t. (c.each a d).1 (chain-more more ((own.closure.each a d).0 t))) (λ a d t u. longer.no_cycle a (pair_then t (one_pair u))))
      (certified.each own.pairs own.closure);
}

-- a result's record certifies its bound
pub CertifiesUnder-result : (C : Matrix) (t : TicketFields) (r : EvaluatedFields) → IsSoundResult C t r → CertifiesUnder C t.path r.shown r.bound
CertifiesUnder-result C t r sound = record { each = λ G c. (sound.bound G c).next }

-- no order that extends the path of a sound ticket weighs more than a sound result's bound
pub weight-le-result : (C : Matrix) (t : TicketFields) (r : EvaluatedFields) (s : List ℕ) → IsSoundTicket C t → IsSoundResult C t r → IsOrder C.size s → IsLinearExtension s t.path → weight C s ≤ℤ r.bound
weight-le-result C t r s ticket sound o x = weight-le-certified_under C t.path r.shown r.bound s ticket.branching sound.cuts (CertifiesUnder-result C t r sound) o x
