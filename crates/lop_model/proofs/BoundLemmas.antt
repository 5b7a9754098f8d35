-- The pair bound is a bound.
use Rattle.std.proofs.Common.{◌≡◌, ℕ, ◌+◌, ◌<◌, Bool, true, false, cond, List, [], ℤ, pos, ◌≤ℤ◌, neg_ℤ, arith, rules}
use Rattle.std.specs.Prelude.{IsTrue, unsigned_abs}
use Rattle.std.specs.Int.{int_max}
use Rattle.std.proofs.lemmas.Int.{ints, clamps}
use Rattle.std.proofs.lemmas.Bool.Decides.{nat_tests}
use Rattle.lop_model.specs.declared.pair.Pair.{Pair}
use Rattle.lop_model.specs.Order.{IsOrder, place_of, stands_before}
use Rattle.lop_model.specs.Matrix.{Matrix, entry, pair_absolute, absolute_total, weight, IsUpperBound}
use Rattle.lop_model.specs.Fixings.{has_pair, IsLinearExtension}
use Rattle.lop_model.specs.Bound.{pair_value, pair_bound}
use Rattle.lop_model.proofs.SumLemmas.{pair_sum-le, pair_sum-negate}
use Rattle.lop_model.proofs.MatrixLemmas.{weight-pairs, unsigned_abs_bounds}

by_tests : (b f g : Bool) (x y : ℤ) → (IsTrue f → b ≡ true) → (IsTrue g → b ≡ false) → cond b x y ≤ℤ cond f x (cond g y (int_max x y))
by_tests true true g x y h k = omega (arith, ints)
by_tests false true g x y h k = absurd (search rules)
by_tests true false true x y h k = absurd (search rules)
by_tests false false true x y h k = omega (arith, ints)
by_tests true false false x y h k = omega (arith, ints, clamps)
by_tests false false false x y h k = omega (arith, ints, clamps)

-- what an order makes of two objects is at most their value, where the order keeps the fixed pairs
pub choice-le-value : (G : List Pair) (r : ℕ → ℕ → ℤ) (s : List ℕ) (i j : ℕ) → IsLinearExtension s G → cond (stands_before s i j) (r i j) (r j i) ≤ℤ pair_value G r i j
choice-le-value G r s i j x = by_tests (stands_before s i j) (has_pair G i j) (has_pair G j i) (r i j) (r j i)
    (λ h. let here : place_of s i < place_of s j = x.each i j h in grind (arith, nat_tests))
    (λ h. let here : place_of s j < place_of s i = x.each j i h in grind (arith, nat_tests))

-- no order that keeps the fixed pairs weighs more than their pair bound
pub weight-le-pair_bound : (C : Matrix) (G : List Pair) (s : List ℕ) → IsOrder C.size s → IsLinearExtension s G → weight C s ≤ℤ pair_bound C G
weight-le-pair_bound C G s o x =
    rw (weight-pairs C s o) (pair_sum-le C.size (λ i j. cond (stands_before s i j) (entry C i j) (entry C j i)) (pair_value G (entry C)) (λ i j _ _. choice-le-value G (entry C) s i j x))

-- every order keeps no pairs at all
pub IsLinearExtension-none : (s : List ℕ) → IsLinearExtension s []
IsLinearExtension-none s = record { each = λ a b h. absurd (search rules) }

-- so no order weighs more than the pair bound without fixings
pub IsUpperBound-pair_bound : (C : Matrix) → IsUpperBound C (pair_bound C [])
IsUpperBound-pair_bound C = record { each = λ s o. weight-le-pair_bound C [] s o (IsLinearExtension-none s) }

value_within : (f g : Bool) (x y : ℤ) → (cond f x (cond g y (int_max x y)) ≤ℤ pos (unsigned_abs x + unsigned_abs y)) × (neg_ℤ (pos (unsigned_abs x + unsigned_abs y)) ≤ℤ cond f x (cond g y (int_max x y)))
value_within true g x y = (omega (arith, ints, unsigned_abs_bounds x), omega (arith, ints, unsigned_abs_bounds x))
value_within false true x y = (omega (arith, ints, unsigned_abs_bounds y), omega (arith, ints, unsigned_abs_bounds y))
value_within false false x y = (omega (arith, ints, clamps, unsigned_abs_bounds x, unsigned_abs_bounds y), omega (arith, ints, clamps, unsigned_abs_bounds x, unsigned_abs_bounds y))

-- the pair bound is within the absolute sum, whatever is fixed
pub pair_bound_within : (C : Matrix) (G : List Pair) → (pair_bound C G ≤ℤ absolute_total C) × (neg_ℤ (absolute_total C) ≤ℤ pair_bound C G)
pair_bound_within C G =
    let value : ℕ → ℕ → ℤ = pair_value G (entry C) in
    let size : ℕ → ℕ → ℤ = pair_absolute C in (
      pair_sum-le C.size value size (λ i j _ _. (value_within (has_pair G i j) (has_pair G j i) (entry C i j) (entry C j i)).0),
      rw (← pair_sum-negate C.size size) (pair_sum-le C.size (λ i j. neg_ℤ (size i j)) value (λ i j _ _. (value_within (has_pair G i j) (has_pair G j i) (entry C i j) (entry C j i)).1)),
    )
