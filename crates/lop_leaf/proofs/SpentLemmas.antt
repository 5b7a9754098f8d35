-- Cycles that have had their turn in packing.
use Rattle.std.proofs.Common.{◌≡◌, ◌⊎◌, ℕ, ◌+◌, ◌<◌, ◌≤◌, min, cond, List, [], ◌∷◌, length, sym, ◌∙◌, inl, inr, ℤ, arith}
use Rattle.std.proofs.lemmas.Bool.{cases_lt}
use Rattle.lop_model.specs.declared.pair.Pair.{Pair}
use Rattle.lop_model.specs.Matrix.{Matrix}
use Rattle.lop_model.specs.Fixings.{has_pair}
use Rattle.lop_cuts.specs.Arcs.{cycle_arcs}
use Rattle.lop_leaf.specs.Record.{ScaledTerms}
use Rattle.lop_leaf.specs.Packing.{AreThree, AreExhausted}
use Rattle.lop_leaf.specs.Table.{lowered, slack, HasResiduals, IsSpentCycle, IsPassed, ArePassed, IsLater}
use Rattle.lop_leaf.proofs.ResidualLemmas.{lowered-zero}
use Rattle.lop_leaf.proofs.PackingLemmas.{which_least, exhausted_cycle}

-- ---- one state after another

pub later_same : (n : ℕ) (r : ScaledTerms) (t : List ℤ) → IsLater n r t r t
later_same n r t = record { terms = omega arith; none_left = λ x y k l e. e }

pub later_then : (n : ℕ) (r : ScaledTerms) (t : List ℤ) (s : ScaledTerms) (u : List ℤ) (q : ScaledTerms) (v : List ℤ) → IsLater n r t s u → IsLater n s u q v → IsLater n r t q v
later_then n r t s u q v first second = record {
  terms = let k = first.terms in let l = second.terms in omega arith;
  none_left = λ x y k l e. second.none_left x y k l (first.none_left x y k l e);
}

-- a step of packing lowers residuals and adds terms
pub later_step : (n : ℕ) (r s : ScaledTerms) (t u : List ℤ) (a b c m : ℕ) → length r.terms ≤ length s.terms
    → ((x y : ℕ) → x < n → y < n → slack u n x y ≡ cond (has_pair (cycle_arcs (a ∷ b ∷ c ∷ [])) x y) (lowered (slack t n x y) m) (slack t n x y))
    → IsLater n r t s u
later_step n r s t u a b c m more each = record {
  terms = more;
  none_left = λ x y k l e. each x y k l ∙ lowered-zero (has_pair (cycle_arcs (a ∷ b ∷ c ∷ [])) x y) (slack t n x y) m e;
}

-- ---- what has had its turn

pub before_or_last : (x y : ℕ) → x < y + 1 → (x < y) ⊎ (x ≡ y)
before_or_last x y l = elim (cases_lt x y) [ inl less ↦ inl less | inr most ↦ inr (omega arith) ]

-- a cycle whose least word is 0 is spent
pub spent_none : (n : ℕ) (t : List ℤ) (a b c : ℕ) → min (slack t n a b) (min (slack t n b c) (slack t n c a)) ≡ 0 → IsSpentCycle n t a b c
spent_none n t a b c e = elim (which_least (slack t n a b) (slack t n b c) (slack t n c a)) [
  | inl f ↦ inl (sym f ∙ e)
  | inr rest ↦ elim rest [ inl f ↦ inr (inl (sym f ∙ e)) | inr f ↦ inr (inr (sym f ∙ e)) ]
]

-- what has had its turn has had it later too
pub passed_later : (n : ℕ) (r : ScaledTerms) (t : List ℤ) (s : ScaledTerms) (u : List ℤ) (a b c : ℕ) → a < n → b < n → c < n → IsLater n r t s u → IsPassed n r t a b c → IsPassed n s u a b c
passed_later n r t s u a b c la lb lc later is = elim is [
  | inl full ↦ inl (let more = later.terms in omega arith)
  | inr spent ↦ inr (elim spent [
    | inl e ↦ inl (later.none_left a b la lb e)
    | inr rest ↦ elim rest [ inl e ↦ inr (inl (later.none_left b c lb lc e)) | inr e ↦ inr (inr (later.none_left c a lc la e)) ]
  ])
]

pub both_later : (n : ℕ) (r : ScaledTerms) (t : List ℤ) (s : ScaledTerms) (u : List ℤ) (i j k : ℕ) → i < n → j < n → k < n → IsLater n r t s u → ArePassed n r t i j k → ArePassed n s u i j k
both_later n r t s u i j k li lj lk later is = (passed_later n r t s u i j k li lj lk later is.0, passed_later n r t s u i k j li lk lj later is.1)

-- ---- all cycles

-- a cycle may be begun at each of its objects
rotated : (n : ℕ) (t : List ℤ) (a b c : ℕ) → IsSpentCycle n t a b c → IsSpentCycle n t b c a
rotated n t a b c is = elim is [
  | inl e ↦ inr (inr e)
  | inr rest ↦ elim rest [ inl e ↦ inl e | inr e ↦ inr (inl e) ]
]

spent_if_room : (n : ℕ) (r : ScaledTerms) (t : List ℤ) (a b c : ℕ) → length r.terms < 4096 → IsPassed n r t a b c → IsSpentCycle n t a b c
spent_if_room n r t a b c room is = elim is [ inl full ↦ absurd (omega arith) | inr spent ↦ spent ]

ordered : (x y : ℕ) → (x ≡ y → ⊥) → (x < y) ⊎ (y < x)
ordered x y differ = elim (cases_lt x y) [ inl l ↦ inl l | inr l ↦ elim (cases_lt y x) [ inl k ↦ inr k | inr k ↦ absurd (differ (omega arith)) ] ]

-- where the cycles of all i < j < k are spent, those of any three different objects are
all_spent : (n : ℕ) (t : List ℤ) → ((i j k : ℕ) → i < j → j < k → k < n → IsSpentCycle n t i j k × IsSpentCycle n t i k j) → (a b c : ℕ) → AreThree n a b c → IsSpentCycle n t a b c
all_spent n t sorted a b c three =
    let la = three.first in
    let lb = three.second in
    let lc = three.third in
    elim (ordered a b three.first_second) [
      | inl ab ↦ elim (ordered b c three.second_third) [
        | inl bc ↦ (sorted a b c ab bc lc).0
        | inr cb ↦ elim (ordered a c three.first_third) [
          | inl ac ↦ (sorted a c b ac cb lb).1
          | inr ca ↦ rotated n t c a b (sorted c a b ca ab lb).0
        ]
      ]
      | inr ba ↦ elim (ordered b c three.second_third) [
        | inl bc ↦ elim (ordered a c three.first_third) [
          | inl ac ↦ rotated n t c a b (rotated n t b c a (sorted b a c ba ac lc).1)
          | inr ca ↦ rotated n t c a b (rotated n t b c a (sorted b c a bc ca la).0)
        ]
        | inr cb ↦ rotated n t c a b (sorted c b a cb ba la).1
      ]
    ]

-- where all have had their turn, no dicycle keeps three positive residuals, unless the record is full
pub all_exhausted : (C : Matrix) (G : List Pair) (r : ScaledTerms) (t : List ℤ) → length r.terms ≤ 4096 → HasResiduals C G r.terms t → ((i j k : ℕ) → i < j → j < k → k < C.size → ArePassed C.size r t i j k) → AreExhausted C G r.terms
all_exhausted C G r t most has passed = elim (cases_lt (length r.terms) 4096) [
  | inl room ↦ inr (λ a b c three. exhausted_cycle C G r.terms t a b c has three
      (all_spent C.size t (λ i j k ij jk kn. let both = passed i j k ij jk kn in (spent_if_room C.size r t i j k room both.0, spent_if_room C.size r t i k j room both.1)) a b c three))
  | inr full ↦ inl (omega arith)
]
