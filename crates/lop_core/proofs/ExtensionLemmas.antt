-- Orders that extend a path, and one more pair.
use Rattle.std.proofs.Common.{◌≡◌, ◌≢◌, ℕ, ◌+◌, ◌<◌, ◌≤◌, List, [], ◌∷◌, ◌++◌, length, ◌⊎◌, inl, inr, arith, sym, subst}
use Rattle.std.proofs.lemmas.Bool.{cases_lt}
use Rattle.std.proofs.lemmas.List.{length_push, take-append-le, take_at, get_or_append_left, get_or_push}
use Rattle.lop_model.specs.declared.pair.Pair.{Pair}
use Rattle.lop_model.specs.Order.{IsOrder, StandsBefore, place_of}
use Rattle.lop_model.specs.Fixings.{IsLinearExtension, IsUndecided, IsBranchingPath}
use Rattle.lop_model.proofs.OrderLemmas.{places_apart}
use Rattle.lop_model.proofs.ClosureLemmas.{has_pair-append_left, has_pair-more_cases, has_pair-more_new}

-- of two different objects one stands before the other
pub one_way : (n : ℕ) (s : List ℕ) (a b : ℕ) → IsOrder n s → a < n → b < n → a ≢ b → StandsBefore s a b ⊎ StandsBefore s b a
one_way n s a b o la lb ne =
    let apart : place_of s a ≢ place_of s b = places_apart n s a b o la lb ne in
    elim (cases_lt (place_of s a) (place_of s b)) [ inl lt ↦ inl lt | inr ge ↦ inr (omega (arith, apart)) ]

-- and not the other way too
pub not_both : (s : List ℕ) (a b : ℕ) → StandsBefore s a b → StandsBefore s b a → ⊥
not_both s a b p q = absurd (omega (arith, p, q))

-- an order that extends a path and keeps one more pair extends the longer path
pub extends_more : (s : List ℕ) (path : List Pair) (pair : Pair) → IsLinearExtension s path → StandsBefore s pair.before pair.after → IsLinearExtension s (path ++ pair ∷ [])
extends_more s path pair x b = record {
  each = λ c d t. elim (has_pair-more_cases path pair c d t) [
    | inl old ↦ x.each c d old
    | inr new ↦ subst (λ k. StandsBefore s k d) (sym new.0) (subst (λ k. StandsBefore s pair.before k) (sym new.1) b)
  ];
}

-- an order that extends the longer path extends the path
pub extends_less : (s : List ℕ) (path : List Pair) (pair : Pair) → IsLinearExtension s (path ++ pair ∷ []) → IsLinearExtension s path
extends_less s path pair x = record { each = λ c d t. x.each c d (has_pair-append_left path (pair ∷ []) c d t) }

-- and it keeps the last pair
pub extends_last : (s : List ℕ) (path : List Pair) (pair : Pair) → IsLinearExtension s (path ++ pair ∷ []) → StandsBefore s pair.before pair.after
extends_last s path pair x = x.each pair.before pair.after (has_pair-more_new path pair)

-- the reversed pair is undecided where the pair is
pub reversed_undecided : (n : ℕ) (path : List Pair) (pair : Pair) → IsUndecided n path pair.before pair.after → IsUndecided n path pair.after pair.before
reversed_undecided n path pair u = record {
  first = u.second;
  second = u.first;
  differ = λ e. u.differ (sym e);
  not_before = u.not_after;
  not_after = u.not_before;
}

-- a branching path goes on by a pair that is undecided under it
pub IsBranchingPath-push : (n : ℕ) (path : List Pair) (pair : Pair) → IsBranchingPath n path → IsUndecided n path pair.before pair.after → IsBranchingPath n (path ++ pair ∷ [])
IsBranchingPath-push n path pair h u = record {
  each = λ i q l.
      let longer : length (path ++ pair ∷ []) ≡ length path + 1 = length_push path pair in
      elim (cases_lt i (length path)) [
        | inl lt ↦
            let le : i ≤ length path = omega arith in
            rw (take-append-le i path (pair ∷ []) le, get_or_append_left path (pair ∷ []) q i lt) (h.each i q lt)
        | inr ge ↦
            let at : length path ≡ i = omega arith in
            rw (take_at path (pair ∷ []) i at, get_or_push path pair q i at) u
      ];
}
