-- Rows that are dropped one by one, and a row that is added.
use Rattle.std.proofs.Common.{◌≡◌, ◌≢◌, ℕ, zero, suc, ◌+◌, ◌<◌, ◌≤◌, List, [], ◌∷◌, ◌++◌, length, take, drop, get_or, ap, ℤ, pos, ◌≤ℤ◌, arith, sym, subst}
use Rattle.std.specs.List.{All, AllPairs, remove}
use Rattle.std.proofs.lemmas.List.Elements.{All-append, All-take, All-drop}
use Rattle.std.proofs.lemmas.List.Edits.{length-remove}
use Rattle.std.proofs.lemmas.List.Quantifiers.{all_pairs_remove}
use Rattle.lop_cuts.specs.declared.kind.CutKind.{CutKind}
use Rattle.lop_model.specs.declared.pair.Pair.{Pair}
use Rattle.lop_cuts.specs.Kind.{FitsCut, IsArcBelow}
use Rattle.lop_simplex.specs.Lp.{Lp, IsLp, AreRows, AreMultipliers}
use Rattle.lop_simplex.specs.Answers.{IsSublist, both_empty, left_out, kept}

pub same_list : {X : Type 0} (xs : List X) → IsSublist xs xs
same_list [] = both_empty
same_list (x ∷ xs) = kept x (same_list xs)

-- a list without one of its elements
pub sublist-remove : {X : Type 0} (xs : List X) (i : ℕ) → i < length xs → IsSublist (remove xs i) xs
sublist-remove [] i h = absurd (omega arith)
sublist-remove (x ∷ xs) zero h = left_out x (same_list xs)
sublist-remove (x ∷ xs) (suc i) h = kept x (sublist-remove xs i (omega arith))

pub sublist-trans : {X : Type 0} {xs ys zs : List X} → IsSublist xs ys → IsSublist ys zs → IsSublist xs zs
sublist-trans both_empty t = t
sublist-trans (left_out y s) (left_out z t) = left_out z (sublist-trans (left_out y s) t)
sublist-trans (left_out y s) (kept _ t) = left_out y (sublist-trans s t)
sublist-trans (kept x s) (left_out z t) = left_out z (sublist-trans (kept x s) t)
sublist-trans (kept x s) (kept _ t) = kept x (sublist-trans s t)

All-remove : {X : Type 0} (P : X → Type 0) (xs : List X) (i : ℕ) → All P xs → All P (remove xs i)
All-remove P xs i h = All-append P (take i xs) (drop (suc i) xs) (All-take P i xs h) (All-drop P (suc i) xs h)

pub rows_without : (n : ℕ) (rows : List CutKind) (i : ℕ) → i < length rows → AreRows n rows → AreRows n (remove rows i)
rows_without n rows i within h = record {
  at_most = let len = length-remove rows i within in let most = h.at_most in omega arith;
  distinct = all_pairs_remove (λ x y. x ≢ y) rows i within h.distinct;
  fit = All-remove (FitsCut n) rows i h.fit;
}

pub multipliers_without : (rows : List CutKind) (duals : List ℤ) (i : ℕ) → i < length rows → AreMultipliers rows duals → AreMultipliers (remove rows i) (remove duals i)
multipliers_without rows duals i within h =
    let same = h.one_per_row in
    let also : i < length duals = omega arith in
    record {
      one_per_row = let len = length-remove rows i within in let other = length-remove duals i also in omega arith;
      not_negative = All-remove (λ y. pos 0 ≤ℤ y) duals i h.not_negative;
    }

-- the arcs of a row's cut are of objects below n
pub arcs_below : (n : ℕ) (rows : List CutKind) (r : ℕ) (cut : CutKind) (items arcs : List Pair) → All (FitsCut n) rows → r < length rows → cut ≡ get_or rows r cut → items ≡ arcs → ((m : ℕ) → FitsCut m cut → All (IsArcBelow m) arcs) → All (IsArcBelow n) items
arcs_below n rows r cut items arcs fit within is same below =
    let fits : FitsCut n cut = subst (λ (k : CutKind). FitsCut n k) (sym is) (fit r cut within) in
    subst (λ (xs : List Pair). All (IsArcBelow n) xs) (sym same) (below n fits)

-- without rows there is nothing to show of them
pub empty_lp : (p : Lp) → p.rows ≡ [] → p.duals ≡ [] → p.point.size ≡ p.size → p.shift ≤ 40 → IsLp p
empty_lp p rows duals point shift =
    let none : length p.rows ≡ 0 = ap length rows in
    let no_dual : length p.duals ≡ 0 = ap length duals in
    record {
      rows = record { at_most = omega arith; distinct = λ i j d l m. absurd (omega arith); fit = λ k d l. absurd (omega arith) };
      duals = record { one_per_row = omega arith; not_negative = λ k d l. absurd (omega arith) };
      point = point;
      shift = shift;
    }
