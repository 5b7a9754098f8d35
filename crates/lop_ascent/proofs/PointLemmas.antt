-- A point is written pair by pair.
use Rattle.std.proofs.Common.{◌≢◌, ℕ, ◌+◌, ◌<◌, ◌≤◌, List, ◌∙◌, sym, subst, inl, inr, arith}
use Rattle.std.specs.Prelude.{IsTrue}
use Rattle.std.proofs.lemmas.Bool.{cases_eq, cases_lt}
use Rattle.lop_model.specs.declared.pair.Pair.{Pair}
use Rattle.lop_model.specs.Fixings.{has_pair, one_pair}
use Rattle.lop_fix.specs.PartialOrder.{FixedPairs, IsPartialOrder}
use Rattle.lop_cuts.specs.Point.{PointValues, AreOtherObjects}
use Rattle.lop_ascent.specs.AtFixings.{HasFixings, IsPairAt, IsPairWritten}

-- all pairs of objects below j are written
pub record AreWritten (F : List Pair) (p : PointValues) (j : ℕ) : Type 0 where
  pub each : (a b : ℕ) → a < b → b < j → IsPairAt F p a b

-- so are those of j and an object below i
pub record AreWrittenTo (F : List Pair) (p : PointValues) (i j : ℕ) : Type 0 where
  pub below : AreWritten F p j
  pub here : (a : ℕ) → a < i → IsPairAt F p a j

-- a pair that is written stays so
stays : (F : List Pair) (p q : PointValues) (i j a b : ℕ) → IsPairWritten F i j p q → a < p.size → b < p.size → AreOtherObjects i j a b → AreOtherObjects i j b a → IsPairAt F p a b → IsPairAt F q a b
stays F p q i j a b w la lb o r at = record {
  forth = λ t. w.others a b la lb o ∙ at.forth t;
  back = λ t. w.others b a lb la r ∙ at.back t;
}

pub write_next : (F : List Pair) (p q : PointValues) (i j : ℕ) → IsPairWritten F i j p q → i < j → j < p.size → AreWrittenTo F p i j → AreWrittenTo F q (i + 1) j
write_next F p q i j w ij jn done = record {
  below = record {
    each = λ a b ab bj.
        let aj : a ≢ j = λ e. omega arith in
        let bj' : b ≢ j = λ e. omega arith in
        stays F p q i j a b w (omega arith) (omega arith) (inr bj', inl aj) (inr aj, inl bj') (done.below.each a b ab bj);
  };
  here = λ a l. elim (cases_eq a i) [
    | inl same ↦ subst (λ x. IsPairAt F q x j) (sym same) w.here
    | inr other ↦
        let aj : a ≢ j = λ e. omega arith in
        stays F p q i j a j w (omega arith) jn (inl other, inl aj) (inr aj, inr other) (done.here a (omega arith))
  ];
}

pub row_written : (F : List Pair) (p : PointValues) (i j : ℕ) → j ≤ i → AreWrittenTo F p i j → AreWritten F p (j + 1)
row_written F p i j l done = record {
  each = λ a b ab bj. elim (cases_eq b j) [
    | inl same ↦ subst (λ x. IsPairAt F p a x) (sym same) (done.here a (omega arith))
    | inr other ↦ done.below.each a b ab (omega arith)
  ];
}

pub row_begun : (F : List Pair) (p : PointValues) (j : ℕ) → AreWritten F p j → AreWrittenTo F p 0 j
row_begun F p j done = record { below = done; here = λ a l. absurd (omega arith) }

pub none_written : (F : List Pair) (p : PointValues) → AreWritten F p 0
none_written F p = record { each = λ a b l m. absurd (omega arith) }

pub all_written : (f : FixedPairs) (p : PointValues) (j : ℕ) → IsPartialOrder f → p.size ≤ j → AreWritten f.pairs p j → HasFixings f.pairs p
all_written f p j is l done = record {
  each = λ a b la lb t. elim (cases_lt a b) [
    | inl before ↦ (done.each a b before (omega arith)).forth t
    | inr after ↦ elim (cases_eq a b) [
      | inl same ↦ absurd (is.no_cycle a (one_pair (subst (λ x. IsTrue (has_pair f.pairs a x)) (sym same) t)))
      | inr other ↦ (done.each b a (omega arith) (omega arith)).back t
    ]
  ];
}
