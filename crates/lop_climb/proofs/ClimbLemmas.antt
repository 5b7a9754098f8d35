-- The best insertion of an object, and what a climb keeps.
use Rattle.std.proofs.Common.{◌≡◌, ℕ, suc, ◌+◌, ◌<◌, List, length, ℤ, pos, ◌+ℤ◌, ◌≤ℤ◌, ◌<ℤ◌, sym, subst, inl, inr, add-zero, add-suc, arith}
use Rattle.std.proofs.lemmas.Int.{ints}
use Rattle.std.proofs.lemmas.Bool.{cases_lt}
use Rattle.lop_model.specs.Order.{after_insertion}
use Rattle.lop_model.specs.Matrix.{Matrix, weight}
use Rattle.lop_climb.specs.Insertion.{IsInsertionOptimum, IsBestMove, IsClimb, no_move, one_more, gain_of, IsBestInsertion}

-- ---- the best insertion, as places are added

pub IsBestInsertion-own : (C : Matrix) (s : List ℕ) (f : ℕ) → weight C (after_insertion s f f) ≡ weight C s → IsBestInsertion C s f f (f + 1) f (pos 0)
IsBestInsertion-own C s f same = record {
  from = omega arith;
  below = omega arith;
  gains = omega (arith, ints);
  best = λ k l m. let e : k ≡ f = omega arith in subst (λ j. gain_of C s f j ≤ℤ pos 0) (sym e) (omega (arith, ints));
}

module _ (C : Matrix) (s : List ℕ) (f low high t : ℕ) (g : ℤ) (so : IsBestInsertion C s f low high t g) where
  -- one place later
  pub IsBestInsertion-keeps_later : gain_of C s f high ≤ℤ g → IsBestInsertion C s f low (high + 1) t g
  IsBestInsertion-keeps_later le = record {
    from = so.from;
    below = omega (arith, so.below);
    gains = so.gains;
    best = λ k l m. elim (cases_lt k high) [
      | inl before ↦ so.best k l before
      | inr last ↦ let e : k ≡ high = omega arith in subst (λ j. gain_of C s f j ≤ℤ g) (sym e) le
    ];
  }

  pub IsBestInsertion-takes_later : (x : ℤ) → x ≡ gain_of C s f high → g <ℤ x → IsBestInsertion C s f low (high + 1) high x
  IsBestInsertion-takes_later x is more = record {
    from = omega (arith, so.from, so.below);
    below = omega arith;
    gains = is;
    best = λ k l m. elim (cases_lt k high) [
      | inl before ↦ omega (arith, ints, so.best k l before)
      | inr last ↦ let e : k ≡ high = omega arith in subst (λ j. gain_of C s f j ≤ℤ x) (sym e) (omega (arith, ints))
    ];
  }

  -- one place earlier
  pub IsBestInsertion-keeps_earlier : (p : ℕ) → p + 1 ≡ low → gain_of C s f p ≤ℤ g → IsBestInsertion C s f p high t g
  IsBestInsertion-keeps_earlier p next le = record {
    from = omega (arith, so.from);
    below = so.below;
    gains = so.gains;
    best = λ k l m. elim (cases_lt p k) [
      | inl after ↦ so.best k (omega arith) m
      | inr first ↦ let e : k ≡ p = omega arith in subst (λ j. gain_of C s f j ≤ℤ g) (sym e) le
    ];
  }

  pub IsBestInsertion-takes_earlier : (p : ℕ) (x : ℤ) → p + 1 ≡ low → x ≡ gain_of C s f p → g <ℤ x → IsBestInsertion C s f p high p x
  IsBestInsertion-takes_earlier p x next is more = record {
    from = omega arith;
    below = omega (arith, so.from, so.below);
    gains = is;
    best = λ k l m. elim (cases_lt p k) [
      | inl after ↦ omega (arith, ints, so.best k (omega arith) m)
      | inr first ↦ let e : k ≡ p = omega arith in subst (λ j. gain_of C s f j ≤ℤ x) (sym e) (omega (arith, ints))
    ];
  }

-- ---- climbs

pub IsBestMove-positive : (C : Matrix) (s : List ℕ) (f t : ℕ) (g : ℤ) → f < length s → IsBestInsertion C s f 0 (length s) t g → pos 0 <ℤ g → IsBestMove C s f t
IsBestMove-positive C s f t g l best more = record {
  from = l;
  to = best.below;
  gains = omega (arith, ints, best.gains);
  best = λ k m. omega (arith, ints, best.gains, best.best k (omega arith) m);
}

pub IsClimb-more : (C : Matrix) (s u : List ℕ) (m f t : ℕ) → IsClimb C s m u → IsBestMove C u f t → IsClimb C s (m + 1) (after_insertion u f t)
IsClimb-more C s u m f t so move = let e : suc m ≡ m + 1 = omega arith in subst (λ j. IsClimb C s j (after_insertion u f t)) e (one_more f t so move)

pub IsClimb-on : (C : Matrix) (s t u : List ℕ) (m k : ℕ) → IsClimb C s m t → IsClimb C t k u → IsClimb C s (m + k) u
IsClimb-on C s t u m k first no_move = subst (λ j. IsClimb C s j t) (sym (add-zero m)) first
IsClimb-on C s t u m k first (one_more f p then move) = subst (λ j. IsClimb C s j u) (sym (add-suc m _)) (one_more f p (IsClimb-on C s t _ m _ first then) move)

pub weight-climb : (C : Matrix) (s t : List ℕ) (m : ℕ) → IsClimb C s m t → (weight C s +ℤ pos m) ≤ℤ weight C t
weight-climb C s t m no_move = omega (arith, ints)
weight-climb C s t m (one_more {m = k} {u = u} f p so move) = let before : (weight C s +ℤ pos k) ≤ℤ weight C u = weight-climb C s u k so in omega (arith, ints, move.gains)

-- ---- places that gain nothing

-- no object at the first p places gains at any place
pub record HasNoGain (C : Matrix) (s : List ℕ) (p : ℕ) : Type 0 where
  pub each : (f t : ℕ) → f < p → t < C.size → weight C (after_insertion s f t) ≤ℤ weight C s

pub HasNoGain-none : (C : Matrix) (s : List ℕ) → HasNoGain C s 0
HasNoGain-none C s = record { each = λ f t l. absurd (omega arith) }

pub HasNoGain-more : (C : Matrix) (s : List ℕ) (p v : ℕ) (g : ℤ) → HasNoGain C s p → IsBestInsertion C s p 0 C.size v g → g ≤ℤ pos 0 → HasNoGain C s (p + 1)
HasNoGain-more C s p v g so best none = record {
  each = λ f t l m. elim (cases_lt f p) [
    | inl before ↦ so.each f t before m
    | inr last ↦
        let e : f ≡ p = omega arith in
        subst (λ j. weight C (after_insertion s j t) ≤ℤ weight C s) (sym e) (omega (arith, ints, best.best t (omega arith) m))
  ];
}

pub IsInsertionOptimum-all : (C : Matrix) (s : List ℕ) (p : ℕ) → HasNoGain C s p → p ≡ C.size → IsInsertionOptimum C s
IsInsertionOptimum-all C s p so all = record { each = λ f t l m. so.each f t (omega arith) m }
