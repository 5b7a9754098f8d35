-- The dicycles of n objects are cuts that fit n.
use Rattle.std.proofs.Common.{◌≡◌, ◌≢◌, ℕ, zero, suc, ◌+◌, ◌-◌, ◌<◌, ◌≤◌, false, List, [], ◌∷◌, ◌++◌, length, get_or, take, refl, sym, ◌∙◌, ap, subst, arith}
use Rattle.std.specs.Prelude.{nat_eq}
use Rattle.std.specs.List.{range_with_len, flat_map, All, AllWithin, IsDistinct}
use Rattle.std.proofs.lemmas.Bool.{ltb-true}
use Rattle.std.proofs.lemmas.Bool.Decides.{nat_tests}
use Rattle.std.proofs.lemmas.List.{get_or-append_right, length-append}
use Rattle.std.proofs.lemmas.List.Elements.{All-nil, All-cons, All-append, All-take, All-filter, filter_passes}
use Rattle.lop_cuts.specs.declared.kind.CutKind.{CutKind}
use Rattle.lop_cuts.specs.declared.kind.CutKind.TheVariants.{Dicycle}
use Rattle.lop_cuts.specs.Kind.{IsCut, FitsCut}
use Rattle.lop_cuts.specs.Point.{PointValues}
use Rattle.lop_cuts.specs.Separation.{IsViolatedCut}
use Rattle.lop_sep3.specs.Dicycles.{objects_from, both_dicycles, dicycles_over, dicycles_from, dicycles, violates, violated_dicycles}

-- a cut of objects below n
record IsCutBelow (n : ℕ) (c : CutKind) : Type 0 where
  cut : IsCut c
  fits : FitsCut n c

differ_test : (a b : ℕ) → a ≢ b → nat_eq a b ≡ false
differ_test a b apart = grind (arith, nat_tests)

three_distinct : (a b c : ℕ) → a ≢ b → b ≢ c → a ≢ c → IsDistinct nat_eq (a ∷ b ∷ c ∷ [])
unfolding IsDistinct
three_distinct a b c ab bc ac = ((differ_test a b ab, (differ_test a c ac, tt)), ((differ_test b c bc, tt), (tt, tt)))

three_objects : (n a b c : ℕ) → a < n → b < n → c < n → a ≢ b → b ≢ c → a ≢ c → IsCutBelow n (Dicycle (a ∷ b ∷ c ∷ []))
three_objects n a b c l m k ab bc ac = record {
  cut = record { size = refl; distinct = three_distinct a b c ab bc ac };
  fits = All-cons (λ x. x < n) a (b ∷ c ∷ []) l (All-cons (λ x. x < n) b (c ∷ []) m (All-cons (λ x. x < n) c [] k (All-nil (λ x. x < n))));
}

both_below : (n i j k : ℕ) → i < j → j < k → k < n → All (IsCutBelow n) (both_dicycles i j k)
both_below n i j k l m u =
    let in_i : i < n = omega arith in
    let in_j : j < n = omega arith in
    let ij : i ≢ j = omega arith in
    let jk : j ≢ k = omega arith in
    let ik : i ≢ k = omega arith in
    let kj : k ≢ j = omega arith in
    All-cons (IsCutBelow n) (Dicycle (i ∷ j ∷ k ∷ [])) (Dicycle (i ∷ k ∷ j ∷ []) ∷ []) (three_objects n i j k in_i in_j u ij jk ik)
    (All-cons (IsCutBelow n) (Dicycle (i ∷ k ∷ j ∷ [])) [] (three_objects n i k j in_i u in_j ik kj ij) (All-nil (IsCutBelow n)))

-- what holds of the cuts of each object of a range holds of all
all_range : (n : ℕ) (cuts : ℕ → List CutKind) (a m : ℕ) → ((k : ℕ) → a ≤ k → k < a + m → All (IsCutBelow n) (cuts k)) → All (IsCutBelow n) (flat_map cuts (range_with_len a m))
all_range n cuts a zero each = All-nil (IsCutBelow n)
all_range n cuts a (suc m) each =
    All-append (IsCutBelow n) (cuts a) (flat_map cuts (range_with_len (a + 1) m)) (each a (omega arith) (omega arith))
    (all_range n cuts (a + 1) m (λ k l u. each k (omega arith) (omega arith)))

all_objects : (n : ℕ) (cuts : ℕ → List CutKind) (a : ℕ) → ((k : ℕ) → a ≤ k → k < n → All (IsCutBelow n) (cuts k)) → All (IsCutBelow n) (flat_map cuts (objects_from a n))
all_objects n cuts a each = all_range n cuts a (n - a) (λ k l u. each k l (omega arith))

all_below : (n : ℕ) → All (IsCutBelow n) (dicycles n)
all_below n =
    all_objects n (dicycles_from n) 0 (λ i _ _.
    all_objects n (dicycles_over n i) (i + 1) (λ j l _.
    all_objects n (both_dicycles i j) (j + 1) (λ k m u. both_below n i j k (omega arith) (omega arith) u)))

violated_each : (p : PointValues) → All (IsViolatedCut p) (violated_dicycles p)
violated_each p k d l =
    let below = All-filter (violates p) (IsCutBelow p.size) (dicycles p.size) (all_below p.size) k d l in
    record { cut = below.cut; fits = below.fits; violated = ltb-true _ _ (filter_passes (violates p) (dicycles p.size) k d l) }

-- what was appended is violated
pub appended_violated : (p : PointValues) (limit : ℕ) (old new : List CutKind) → new ≡ old ++ take limit (violated_dicycles p) → AllWithin (IsViolatedCut p) new (length old) (length new)
appended_violated p limit old new is k d from below =
    let more = take limit (violated_dicycles p) in
    let place : k - length old < length more = omega (arith, ap length is, length-append old more) in
    subst (IsViolatedCut p) (sym (ap (λ xs. get_or xs k d) is ∙ get_or-append_right old more (length old) k d refl from)) (All-take (IsViolatedCut p) limit (violated_dicycles p) (violated_each p) (k - length old) d place)
