-- No list of objects keeps all arcs of a cycle: to stand before is a strict order.
use Rattle.std.proofs.Common.{◌≡◌, ◌+◌, ◌<◌, ◌≤◌, ℕ, Bool, true, false, cond, List, [], ◌∷◌, ◌++◌, length, inl, inr, refl, arith}
use Rattle.std.proofs.lemmas.Bool.{cases_lt, both_ways, ltb-true, lt-ltb, le-ltb}
use Rattle.std.proofs.lemmas.List.Sums.{sum_by-cons, sum_by-append, count_by-le-length}
use Rattle.lop_model.specs.declared.pair.Pair.{Pair}
use Rattle.lop_model.specs.Order.{place_of, stands_before}
use Rattle.lop_cuts.specs.Arcs.{arc, kept_count, arcs_back_to, cycle_arcs}

-- no object stands before itself
pub stands_before-irreflexive : (s : List ℕ) (a : ℕ) → stands_before s a a ≡ false
stands_before-irreflexive s a = le-ltb _ _ (omega arith)

-- what stands before an object stands before all that stand after it
pub stands_before-transitive : (s : List ℕ) (a b c : ℕ) → stands_before s a b ≡ true → stands_before s b c ≡ true → stands_before s a c ≡ true
stands_before-transitive s a b c h k =
    lt-ltb _ _ (omega (arith, ltb-true (place_of s a) (place_of s b) h, ltb-true (place_of s b) (place_of s c) k))

-- 1 where a test holds, else 0
abbrev pub one_if : Bool → ℕ
one_if b = cond b 1 0

-- how many arcs are kept of a list with one more in front
pub kept_count-cons : (s : List ℕ) (a : Pair) (xs : List Pair) → kept_count s (a ∷ xs) ≡ one_if (stands_before s a.before a.after) + kept_count s xs
kept_count-cons s a xs = sum_by-cons (λ x. one_if (stands_before s x.before x.after)) a xs

-- how many arcs are kept of two lists
pub kept_count-append : (s : List ℕ) (xs ys : List Pair) → kept_count s (xs ++ ys) ≡ kept_count s xs + kept_count s ys
kept_count-append s xs ys = sum_by-append (λ x. one_if (stands_before s x.before x.after)) xs ys

-- no more arcs are kept than there are
pub kept_count-le : (s : List ℕ) (xs : List Pair) → kept_count s xs ≤ length xs
kept_count-le s xs = count_by-le-length (λ x. stands_before s x.before x.after) xs

-- it is at most 1
pub one_if_le : (b : Bool) → one_if b ≤ 1
one_if_le true = omega arith
one_if_le false = omega arith

-- it is 1 only where the test holds
pub one_if_is : (b : Bool) → 1 ≤ one_if b → b ≡ true
one_if_is true h = refl
one_if_is false h = absurd (omega arith)

module _ (s : List ℕ) where
  -- where all arcs of a path back to the first object are kept, the path begins before the first object
  first_after : (first x : ℕ) (xs : List ℕ) → length (arcs_back_to first x xs) ≤ kept_count s (arcs_back_to first x xs) → stands_before s x first ≡ true
  first_after first x [] h =
      one_if_is (stands_before s x first) (omega (arith, kept_count-cons s (arc x first) [], h))
  first_after first x (y ∷ ys) h =
      let rest = arcs_back_to first y ys in
      let whole = kept_count-cons s (arc x y) rest in
      let most = kept_count-le s rest in
      let one = one_if_le (stands_before s x y) in
      let here = one_if_is (stands_before s x y) (omega (arith, whole, most, h)) in
      let later = first_after first y ys (omega (arith, whole, one, h)) in
      stands_before-transitive s x y first here later

  -- an arc of each cycle is lost
  pub cycle_loses_arc : (x : ℕ) (xs : List ℕ) → kept_count s (cycle_arcs (x ∷ xs)) < length (cycle_arcs (x ∷ xs))
  cycle_loses_arc x xs =
      elim (cases_lt (kept_count s (cycle_arcs (x ∷ xs))) (length (cycle_arcs (x ∷ xs)))) [
        | inl lost ↦ lost
        | inr all ↦ absurd (both_ways (stands_before s x x) (stands_before-irreflexive s x) (first_after x x xs all))
      ]
