-- Lists of hints that are rounded in turn.
use Rattle.std.proofs.Common.{◌≡◌, ℕ, ◌+◌, ◌*◌, ◌/◌, ◌%◌, ◌^◌, ◌<◌, ◌≤◌, ltb, cond, List, [], ◌∷◌, ◌++◌, length, map, take, get_or, sym, ◌∙◌, ap, subst, arith, ℤ, pos}
use Rattle.std.specs.List.{All, zip, filter}
use Rattle.std.proofs.lemmas.List.{get_or-take, get_or-map, length-take-le, length-map, take_all}
use Rattle.std.proofs.lemmas.List.Elements.{filter_more, All-filter}
use Rattle.std.proofs.lemmas.List.Sums.{length-filter, count_by-le-length}
use Rattle.std.proofs.Math.Nat.{mul-le-mul_left}
use Rattle.std.proofs.lemmas.Slice.Zip.{length-zip, get_or-zip}
use Rattle.std.proofs.lemmas.Nat.{shl_whole}
use Rattle.lop_cuts.specs.declared.kind.CutKind.{CutKind}
use Rattle.lop_cuts.specs.Lagrangian.{Term}
use Rattle.lop_leaf.specs.Hints.{rounded_term, rounded_terms, rounded_multiplier}

-- all terms, those with multiplier 0 too
abbrev pub all_terms : ℕ → ℕ → List CutKind → List ℤ → List Term
all_terms shift scale cuts duals = map (rounded_term shift scale) (zip cuts duals)

-- the terms of the first i hints
abbrev pub terms_before : ℕ → ℕ → List CutKind → List ℤ → ℕ → List Term
terms_before shift scale cuts duals i = filter (λ t. ltb 0 t.multiplier) (take i (all_terms shift scale cuts duals))

pub length-all_terms : (shift scale : ℕ) (cuts : List CutKind) (duals : List ℤ) → length cuts ≡ length duals → length (all_terms shift scale cuts duals) ≡ length cuts
length-all_terms shift scale cuts duals same = length-map (zip cuts duals) (rounded_term shift scale) ∙ length-zip cuts duals ∙ omega (arith, same)

-- the term at a place
pub term_at : (shift scale : ℕ) (cuts : List CutKind) (duals : List ℤ) (i : ℕ) (c : CutKind) (d : ℤ) (t : Term) → length cuts ≡ length duals → i < length cuts → get_or (all_terms shift scale cuts duals) i t ≡ rounded_term shift scale (get_or cuts i c, get_or duals i d)
term_at shift scale cuts duals i c d t same within =
    let in_duals : i < length duals = omega (arith, same) in
    let in_zip : i < length (zip cuts duals) = omega (arith, length-zip cuts duals) in
    get_or-map (rounded_term shift scale) (zip cuts duals) i (c, d) t in_zip ∙ ap (rounded_term shift scale) (get_or-zip cuts duals i (c, d) within in_duals)

-- there are no more terms than hints before them
pub length-terms_before-le : (shift scale : ℕ) (cuts : List CutKind) (duals : List ℤ) (i : ℕ) → length cuts ≡ length duals → i ≤ length cuts → length (terms_before shift scale cuts duals i) ≤ i
length-terms_before-le shift scale cuts duals i same within =
    let all = all_terms shift scale cuts duals in
    let front : length (take i all) ≡ i = length-take-le i all (omega (arith, length-all_terms shift scale cuts duals same)) in
    omega (arith, front, length-filter (λ (t : Term). ltb 0 t.multiplier) (take i all), count_by-le-length (λ (t : Term). ltb 0 t.multiplier) (take i all))

-- a fact of each cut before i holds of the cut of each term before i
pub All-terms_before : (P : CutKind → Type 0) (shift scale : ℕ) (cuts : List CutKind) (duals : List ℤ) (i : ℕ) → length cuts ≡ length duals → i ≤ length cuts → ((k : ℕ) (c : CutKind) → k < i → P (get_or cuts k c)) → All (λ t. P t.cut) (terms_before shift scale cuts duals i)
All-terms_before P shift scale cuts duals i same within each =
    let all = all_terms shift scale cuts duals in
    let front : length (take i all) ≡ i = length-take-le i all (omega (arith, length-all_terms shift scale cuts duals same)) in
    All-filter (λ (t : Term). ltb 0 t.multiplier) (λ (t : Term). P t.cut) (take i all)
    (λ k t l.
    let before : k < i = omega (arith, front) in
    let is = get_or-take i all k t before ∙ term_at shift scale cuts duals k t.cut (pos 0) t same (omega arith) in
    subst (λ (u : Term). P u.cut) (sym is) (each k t.cut before))

-- one more hint, whose multiplier is positive or not
pub terms_before-more : (shift scale : ℕ) (cuts : List CutKind) (duals : List ℤ) (i m : ℕ) (c : CutKind) → length cuts ≡ length duals → i < length cuts → m ≡ rounded_multiplier shift scale (get_or duals i (pos 0)) → c ≡ get_or cuts i c → terms_before shift scale cuts duals (i + 1) ≡ terms_before shift scale cuts duals i ++ cond (ltb 0 m) (record { cut = c; multiplier = m } ∷ []) []
terms_before-more shift scale cuts duals i m c same within by is =
    let all = all_terms shift scale cuts duals in
    let t : Term = record { cut = c; multiplier = m } in
    let here : get_or all i t ≡ t =
    term_at shift scale cuts duals i c (pos 0) t same within
    ∙ ap (λ (x : CutKind). record { cut = x; multiplier = rounded_multiplier shift scale (get_or duals i (pos 0)) }) (sym is)
    ∙ ap (λ (k : ℕ). record { cut = c; multiplier = k }) (sym by) in
    filter_more (λ (u : Term). ltb 0 u.multiplier) all i t (omega (arith, length-all_terms shift scale cuts duals same))
    ∙ ap (λ (u : Term). terms_before shift scale cuts duals i ++ cond (ltb 0 u.multiplier) (u ∷ []) []) here

-- all hints
pub terms_before-all : (shift scale : ℕ) (cuts : List CutKind) (duals : List ℤ) (i : ℕ) → length cuts ≡ length duals → length cuts ≤ i → terms_before shift scale cuts duals i ≡ rounded_terms shift scale cuts duals
terms_before-all shift scale cuts duals i same all =
    ap (filter (λ (t : Term). ltb 0 t.multiplier)) (take_all i (all_terms shift scale cuts duals) (omega (arith, length-all_terms shift scale cuts duals same)))

-- nothing is lost where a small number is shifted, and then divided
pub shifted : (p scale shift : ℕ) → p < 2 ^ 63 → scale ≤ 65536 → shift ≤ 40 → p * scale * 2 ^ shift % 2 ^ 128 / 2 ^ 32 ≡ p * scale * 2 ^ shift / 2 ^ 32
shifted p scale shift small few short =
    let below : p * scale < 2 ^ 80 = omega (arith, mul-le-mul_left p few) in
    ap (λ k. k / 2 ^ 32) (shl_whole (p * scale) 80 shift 128 below (omega arith))
