-- Elements that fit their places.
use Rattle.std.proofs.Common.{◌≢◌, ℕ, ◌+◌, ◌<◌, ◌≤◌, inl, inr, List, length, get_or, set, arith, sym, subst, length-set}
use Rattle.std.proofs.lemmas.List.{get_or-set_same, get_or-set_other}
use Rattle.std.proofs.lemmas.Bool.{cases_eq}
use Rattle.lop_pool.specs.Workers.{AllAt, BelowAt, FromAt}

module _ {X : Type 0} (P : ℕ → X → Type 0) (xs : List X) (i : ℕ) where
  pub below_set : (y : X) → i < length xs → P i y → BelowAt P i xs → BelowAt P (i + 1) (set xs i y)
  below_set y lt p below = λ k d lk ll. elim (cases_eq k i) [
    | inl same ↦ subst (λ (j : ℕ). P j (get_or (set xs i y) j d)) (sym same) (subst (P i) (sym (get_or-set_same xs i y d lt)) p)
    | inr other ↦ subst (P k) (sym (get_or-set_other xs i k y d other)) (below k d (omega (arith, lk, other)) (omega (arith, ll, length-set xs i y)))
  ]

  pub from_set : (y : X) → FromAt P (i + 1) xs → FromAt P (i + 1) (set xs i y)
  from_set y from = λ k d le ll.
      let other : k ≢ i = omega (arith, le) in
      subst (P k) (sym (get_or-set_other xs i k y d other)) (from k d le (omega (arith, ll, length-set xs i y)))

  pub below_all : length xs ≤ i → BelowAt P i xs → AllAt P xs
  below_all le below = λ k d lt. below k d (omega (arith, le, lt)) lt
