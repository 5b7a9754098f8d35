-- What packing leaves as it is: cycles that have had their turn.
use Rattle.std.proofs.Common.{◌≡◌, ◌≢◌, ℕ, zero, suc, ◌+◌, ◌-◌, ◌<◌, ◌≤◌, Bool, true, false, List, sym, ◌∙◌, ap, inl, inr, ℤ, pos, ◌-ℤ◌, arith}
use Rattle.std.proofs.lemmas.Int.{ints}
use Rattle.std.proofs.lemmas.Bool.{cases_lt}
use Rattle.lop_model.specs.declared.pair.Pair.{Pair}
use Rattle.lop_model.specs.Matrix.{Matrix}
use Rattle.lop_model.specs.Fixings.{has_pair}
use Rattle.lop_cuts.specs.Lagrangian.{Term, reduced_entry}
use Rattle.lop_leaf.specs.Record.{ScaledTerms}
use Rattle.lop_leaf.specs.Packing.{positive_part, pack_cycle, pack_triple, in_turn, AreThree}
use Rattle.lop_leaf.specs.Table.{IsResidualWord, slack, HasResiduals, IsPassed, ArePassed, IsPassedPair, IsLater}
use Rattle.lop_leaf.proofs.ResidualLemmas.{residual_of, part-to_zero, part-positive, pack_cycle-none, pack_cycle-full}
use Rattle.lop_leaf.proofs.PackingLemmas.{exhausted_cycle, in_turn_more}

-- of a difference and its reverse at most one is positive
one_positive : (u v : ℤ) (w : ℕ) → w ≡ positive_part (u -ℤ v) → 0 < w → positive_part (v -ℤ u) ≡ 0
one_positive u v w e z = let more : u -ℤ v ≡ pos w = part-positive (u -ℤ v) w e z in part-to_zero (v -ℤ u) (omega (arith, ints))

one_word : (g h : Bool) (u v : ℤ) (w w2 : ℕ) → IsResidualWord (residual_of g h (u -ℤ v)) w → IsResidualWord (residual_of h g (v -ℤ u)) w2 → 0 < w → w2 ≡ 0
one_word true h u v w w2 is is2 z = absurd (omega (arith, is.0))
one_word false true u v w w2 is is2 z = is2.0
one_word false false u v w w2 is is2 z = is2.0 ∙ one_positive u v w is.0 z

-- at most one of the arcs between two objects has a residual
pub one_residual : (C : Matrix) (G : List Pair) (terms : List Term) (t : List ℤ) (i j : ℕ) → HasResiduals C G terms t → i < C.size → j < C.size → i ≢ j → 0 < slack t C.size i j → slack t C.size j i ≡ 0
one_residual C G terms t i j has li lj differ z =
    one_word (has_pair G j i) (has_pair G i j) (reduced_entry C 1 terms i j) (reduced_entry C 1 terms j i) (slack t C.size i j) (slack t C.size j i)
    (has.each i j li lj differ) (has.each j i lj li (λ e. differ (sym e))) z

-- three objects in their order, and with the last two exchanged
pub forth : (n i j k : ℕ) → i < j → j < k → k < n → AreThree n i j k
forth n i j k ij jk kn = record {
  first = omega arith;
  second = omega arith;
  third = kn;
  first_second = λ e. absurd (omega arith);
  second_third = λ e. absurd (omega arith);
  first_third = λ e. absurd (omega arith);
}

pub back : (n i j k : ℕ) → i < j → j < k → k < n → AreThree n i k j
back n i j k ij jk kn = record {
  first = omega arith;
  second = kn;
  third = omega arith;
  first_second = λ e. absurd (omega arith);
  second_third = λ e. absurd (omega arith);
  first_third = λ e. absurd (omega arith);
}

-- a cycle that has had its turn takes nothing
pub cycle_still : (C : Matrix) (G : List Pair) (r : ScaledTerms) (t : List ℤ) (a b c : ℕ) → HasResiduals C G r.terms t → AreThree C.size a b c → IsPassed C.size r t a b c → pack_cycle C G a b c r.terms ≡ r.terms
cycle_still C G r t a b c has three passed = elim passed [
  | inl full ↦ pack_cycle-full C G a b c r.terms full
  | inr spent ↦ pack_cycle-none C G a b c r.terms (exhausted_cycle C G r.terms t a b c has three spent)
]

pub triple_still : (C : Matrix) (G : List Pair) (r : ScaledTerms) (t : List ℤ) (i j k : ℕ) → HasResiduals C G r.terms t → i < j → j < k → k < C.size → ArePassed C.size r t i j k → pack_triple C G i j k r.terms ≡ r.terms
triple_still C G r t i j k has ij jk kn passed =
    ap (pack_cycle C G i k j) (cycle_still C G r t i j k has (forth C.size i j k ij jk kn) passed.0)
    ∙ cycle_still C G r t i k j has (back C.size i j k ij jk kn) passed.1

-- what a step over the arc from i to j leaves, where this arc had a residual: the other cycle of the three takes nothing
pub triple_forth : (C : Matrix) (G : List Pair) (r s : ScaledTerms) (t u : List ℤ) (i j k : ℕ) → i < j → j < k → k < C.size → HasResiduals C G r.terms t → 0 < slack t C.size i j → s.terms ≡ pack_cycle C G i j k r.terms → HasResiduals C G s.terms u → IsLater C.size r t s u → IsPassed C.size s u i j k
    → (s.terms ≡ pack_triple C G i j k r.terms) × ArePassed C.size s u i j k
triple_forth C G r s t u i j k ij jk kn before residual step after later passed =
    let inn : i < C.size = omega arith in
    let none : slack t C.size j i ≡ 0 = one_residual C G r.terms t i j before inn (omega arith) (λ e. absurd (omega arith)) residual in
    let other : IsPassed C.size s u i k j = inr (inr (inr (later.none_left j i (omega arith) inn none))) in
    (sym (cycle_still C G s u i k j after (back C.size i j k ij jk kn) other) ∙ ap (pack_cycle C G i k j) step, (passed, other))

-- and where it had none: the cycle over it takes nothing
pub triple_back : (C : Matrix) (G : List Pair) (r s : ScaledTerms) (t u : List ℤ) (i j k : ℕ) → i < j → j < k → k < C.size → HasResiduals C G r.terms t → slack t C.size i j ≡ 0 → s.terms ≡ pack_cycle C G i k j r.terms → IsLater C.size r t s u → IsPassed C.size s u i k j
    → (s.terms ≡ pack_triple C G i j k r.terms) × ArePassed C.size s u i j k
triple_back C G r s t u i j k ij jk kn before none step later passed =
    let jn : j < C.size = omega arith in
    (step ∙ sym (ap (pack_cycle C G i k j) (cycle_still C G r t i j k before (forth C.size i j k ij jk kn) (inr (inl none)))), (inr (inl (later.none_left i j (omega arith) jn none)), passed))

-- where no cycle over i and j can take anything, both cycles of each k have had their turn
pub passed_pair : (n : ℕ) (r : ScaledTerms) (t : List ℤ) (i j k : ℕ) → IsPassedPair n r t i j → ArePassed n r t i j k
passed_pair n r t i j k is = elim is [
  | inl full ↦ (inl full, inl full)
  | inr none ↦ (inr (inl none.0), inr (inr (inr none.1)))
]

-- steps that leave things as they are
pub in_turn_still : {X : Type 0} (a k n : ℕ) (step : ℕ → X → X) (x y : X) → a ≤ k → k ≤ n → y ≡ in_turn a (k - a) step x → ((m : ℕ) → k ≤ m → m < n → step m y ≡ y) → y ≡ in_turn a (n - a) step x
in_turn_still a k zero step x y l h e still = e ∙ ap (λ c. in_turn a c step x) (omega arith)
in_turn_still a k (suc n) step x y l h e still = elim (cases_lt n k) [
  | inl all ↦ let same : k ≡ suc n = omega arith in e ∙ ap (λ m. in_turn a (m - a) step x) same
  | inr more ↦
      let next : n + 1 ≡ suc n = omega arith in
      let before : y ≡ in_turn a (n - a) step x = in_turn_still a k n step x y l more e (λ m f g. still m f (omega arith)) in
      sym (still n more (omega arith)) ∙ ap (step n) before ∙ sym (in_turn_more a n step x (omega arith)) ∙ ap (λ m. in_turn a (m - a) step x) next
]
