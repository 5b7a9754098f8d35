-- Pairs that may be split under a path, and orders that keep it.
use Rattle.std.proofs.Common.{◌≡◌, ℕ, ◌<◌, true, false, not, ◌&&◌, eqb, List, [], ◌∷◌, ◌++◌, sym, subst, inl, inr}
use Rattle.std.proofs.lemmas.Bool.{and_parts, and_from, not-true, not_from_false, false_from_ne_true, both_ways, ne_eqb, eqb-false}
use Rattle.lop_model.specs.declared.pair.Pair.{Pair}
use Rattle.lop_model.specs.Order.{StandsBefore}
use Rattle.lop_model.specs.Fixings.{has_pair, LeadsTo, IsClosure, IsUndecided, IsLinearExtension}
use Rattle.lop_model.proofs.ClosureLemmas.{has_pair-more_cases}
use Rattle.lop_certtext.specs.Answer.{may_split}

-- ---- pairs that may be split

module _ (path G : List Pair) (closure : IsClosure path G) where
  no_chain_from : (x y : ℕ) → has_pair G x y ≡ false → LeadsTo path x y → ⊥
  no_chain_from x y e r = both_ways (has_pair G x y) e ((closure.each x y).1 r)

  not_in_closure : (x y : ℕ) → (LeadsTo path x y → ⊥) → has_pair G x y ≡ false
  not_in_closure x y h = false_from_ne_true (has_pair G x y) (λ t. h ((closure.each x y).0 t))

  -- a pair of objects below n that may be split is undecided
  pub undecided-may_split : (n : ℕ) (p : Pair) → p.before < n → p.after < n → may_split G p ≡ true → IsUndecided n path p.before p.after
  undecided-may_split n p first second e =
      let parts = and_parts (not (eqb p.before p.after) && not (has_pair G p.before p.after)) (not (has_pair G p.after p.before)) e in
      let rest = and_parts (not (eqb p.before p.after)) (not (has_pair G p.before p.after)) parts.0 in
      record {
        first = first;
        second = second;
        differ = eqb-false p.before p.after (not-true _ rest.0);
        not_before = no_chain_from p.before p.after (not-true _ rest.1);
        not_after = no_chain_from p.after p.before (not-true _ parts.1);
      }

  -- and an undecided pair may be split
  pub may_split-undecided : (n : ℕ) (p : Pair) → IsUndecided n path p.before p.after → may_split G p ≡ true
  may_split-undecided n p u =
      and_from _ _ (and_from _ _ (not_from_false _ (ne_eqb p.before p.after u.differ)) (not_from_false _ (not_in_closure p.before p.after u.not_before))) (not_from_false _ (not_in_closure p.after p.before u.not_after))

-- ---- orders that keep a path

-- one more pair is kept
pub extends_more : (s : List ℕ) (path : List Pair) (p : Pair) → IsLinearExtension s path → StandsBefore s p.before p.after → IsLinearExtension s (path ++ p ∷ [])
extends_more s path p x b = record {
  each = λ c d t. elim (has_pair-more_cases path p c d t) [
    | inl old ↦ x.each c d old
    | inr new ↦ subst (λ k. StandsBefore s k d) (sym new.0) (subst (λ k. StandsBefore s p.before k) (sym new.1) b)
  ];
}
