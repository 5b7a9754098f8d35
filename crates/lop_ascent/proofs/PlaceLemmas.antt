-- The pairs of n objects have cells in a table that is large enough.
use Rattle.std.proofs.Common.{suc, zero, ◌≡◌, ℕ, ◌+◌, ◌-◌, ◌*◌, ◌/◌, ◌<◌, ◌≤◌, List, [], ◌∷◌, ◌++◌, length, take, drop, get_or, min, ◌∙◌, sym, subst, inl, inr, arith}
use Rattle.std.specs.Prelude.{All, swap_remove, set}
use Rattle.std.proofs.lemmas.Bool.{cases_eq}
use Rattle.std.proofs.lemmas.Grind.{common_steps}
use Rattle.std.proofs.lemmas.List.{length-set, get_or-set_same, get_or-set_other, get_or-take, get_or-drop, length-take, length-drop}
use Rattle.std.proofs.Math.Nat.{mul-le-mul, mul-div-le, lt-mul-div-succ}
use Rattle.lop_ascent.specs.declared.place.Place.{Place}
use Rattle.lop_ascent.specs.declared.span.Span.{Span}
use Rattle.lop_ascent.specs.Places.{HasCells, IsPlaceIn, IsSpanIn}

place_at : (i k m cells : ℕ) → i ≤ k → k + 1 ≤ m → (m + 1) * (m + 1) ≤ 2 * cells + (m + 1) → (k + 1) * k / 2 + i < cells
place_at i k m cells l below square =
    let half : 2 * ((k + 1) * k / 2) ≤ (k + 1) * k = mul-div-le ((k + 1) * k) 2 in
    let more : (k + 2) * (k + 1) ≤ (m + 1) * m = mul-le-mul (omega arith) below in
    omega (arith, half, more, l, square)

pub place_within : (i j n cells : ℕ) → i < j → j < n → HasCells n cells → j * (j - 1) / 2 + i < cells
place_within i j n cells l below h =
    let at_n : n ≡ n - 1 + 1 = omega arith in
    let at_j : j - 1 + 1 ≡ j = omega arith in
    let square : (n - 1 + 1) * (n - 1 + 1) ≤ 2 * cells + (n - 1 + 1) = subst (λ (x : ℕ). x * x ≤ 2 * cells + x) at_n h.square in
    let at : (j - 1 + 1) * (j - 1) / 2 + i < cells = place_at i (j - 1) (n - 1) cells (omega arith) (omega arith) square in
    subst (λ (x : ℕ). x * (j - 1) / 2 + i < cells) at_j at

square_of : (n : ℕ) → n * n ≡ n * (n - 1) + n
square_of zero = omega arith
square_of (suc k) =
    let e : suc k - 1 ≡ k = omega arith in
    rw e (omega arith)

pub enough_cells : (n : ℕ) → HasCells n (n * (n - 1) / 2 + 1)
enough_cells n = record {
  square =
      let half : n * (n - 1) < 2 * (n * (n - 1) / 2 + 1) = lt-mul-div-succ (n * (n - 1)) (omega arith) in
      omega (arith, half, square_of n);
  some = omega arith;
}

fewer_at : (p q cells : ℕ) → p ≤ q → (q + 1) * (q + 1) ≤ 2 * cells + (q + 1) → (p + 1) * (p + 1) ≤ 2 * cells + (p + 1)
fewer_at p q cells l square =
    let more : (p + 1) * p ≤ (q + 1) * q = mul-le-mul (omega arith) l in
    omega (arith, more, square)

-- they are enough for fewer objects
pub cells_for_fewer : (m n cells : ℕ) → m ≤ n → HasCells n cells → HasCells m cells
cells_for_fewer zero n cells l h = record { square = omega arith; some = h.some }
cells_for_fewer (suc p) n cells l h =
    let at_n : n ≡ n - 1 + 1 = omega arith in
    let square : (n - 1 + 1) * (n - 1 + 1) ≤ 2 * cells + (n - 1 + 1) = subst (λ (x : ℕ). x * x ≤ 2 * cells + x) at_n h.square in
    let least : (p + 1) * (p + 1) ≤ 2 * cells + (p + 1) = fewer_at p (n - 1) cells (omega arith) square in
    record { square = omega (arith, least); some = h.some }

-- ---- lists of places and of spans

pub places_push : (cells : ℕ) (xs ys : List Place) (x : Place) → ys ≡ xs ++ x ∷ [] → All (IsPlaceIn cells) xs → IsPlaceIn cells x → All (IsPlaceIn cells) ys
places_push cells xs ys x e h p = subst (λ (zs : List Place). All (IsPlaceIn cells) zs) (sym e) (grind (arith, common_steps))

pub spans_push : (k : ℕ) (xs ys : List Span) (x : Span) → ys ≡ xs ++ x ∷ [] → All (IsSpanIn k) xs → IsSpanIn k x → All (IsSpanIn k) ys
spans_push k xs ys x e h p = subst (λ (zs : List Span). All (IsSpanIn k) zs) (sym e) (grind (arith, common_steps))

pub spans_more : (k m : ℕ) (xs : List Span) → k ≤ m → All (IsSpanIn k) xs → All (IsSpanIn m) xs
spans_more k m xs l h = λ i d t. let at = h i d t in omega (arith, at, l)

pub places_none : (cells : ℕ) (xs : List Place) → length xs ≡ 0 → All (IsPlaceIn cells) xs
places_none cells xs e = λ k d l. absurd (omega arith)

pub spans_none : (k : ℕ) (xs : List Span) → length xs ≡ 0 → All (IsSpanIn k) xs
spans_none k xs e = λ i d l. absurd (omega arith)

-- one was taken out
pub spans_fewer : (m : ℕ) (xs ys : List Span) (r : ℕ) (d : Span) → All (IsSpanIn m) xs → r < length xs → ys ≡ swap_remove xs r d → All (IsSpanIn m) ys
spans_fewer m xs ys r d h l is = subst (λ (zs : List Span). All (IsSpanIn m) zs) (sym is) (λ k e t. at k e t)
  where
    size : length (swap_remove xs r d) ≡ length xs - 1
    size = grind (arith, common_steps)

    at : (k : ℕ) (e : Span) → k < length (swap_remove xs r d) → IsSpanIn m (get_or (swap_remove xs r d) k e)
    at k e t = elim (cases_eq k r) [
      | inl same ↦
          let is : get_or (swap_remove xs r d) k e ≡ get_or xs (length xs - 1) e = grind (arith, common_steps) in
          subst (λ (x : Span). IsSpanIn m x) (sym is) (h (length xs - 1) e (omega arith))
      | inr other ↦
          let is : get_or (swap_remove xs r d) k e ≡ get_or xs k e = grind (arith, common_steps) in
          subst (λ (x : Span). IsSpanIn m x) (sym is) (h k e (omega (arith, size)))
    ]

pub places_set : (cells : ℕ) (xs : List Place) (i : ℕ) (x : Place) → All (IsPlaceIn cells) xs → IsPlaceIn cells x → All (IsPlaceIn cells) (set xs i x)
places_set cells xs i x h p = λ k d l. at k d l
  where
    at : (k : ℕ) (d : Place) → k < length (set xs i x) → IsPlaceIn cells (get_or (set xs i x) k d)
    at k d l =
        let size : length (set xs i x) ≡ length xs = length-set xs i x in
        elim (cases_eq k i) [
          | inl same ↦
              let is : get_or (set xs i x) k d ≡ x = subst (λ (j : ℕ). get_or (set xs j x) k d ≡ x) same (get_or-set_same xs k x d (omega (arith, size))) in
              subst (λ (y : Place). IsPlaceIn cells y) (sym is) p
          | inr other ↦
              subst (λ (y : Place). IsPlaceIn cells y) (sym (get_or-set_other xs i k x d other)) (h k d (omega (arith, size)))
        ]

-- a part of a list of places
pub places_part : (cells start end : ℕ) (xs ys : List Place) → ys ≡ take (end - start) (drop start xs) → All (IsPlaceIn cells) xs → All (IsPlaceIn cells) ys
places_part cells start end xs ys e h = subst (λ (zs : List Place). All (IsPlaceIn cells) zs) (sym e) (λ k d l. at k d l)
  where
    at : (k : ℕ) (d : Place) → k < length (take (end - start) (drop start xs)) → IsPlaceIn cells (get_or (take (end - start) (drop start xs)) k d)
    at k d l =
        let size : length (take (end - start) (drop start xs)) ≡ min (end - start) (length (drop start xs)) = length-take (end - start) (drop start xs) in
        let rest : length (drop start xs) ≡ length xs - start = length-drop start xs in
        let near : k < end - start = omega (arith, l, size) in
        let is : get_or (take (end - start) (drop start xs)) k d ≡ get_or xs (start + k) d = get_or-take (end - start) (drop start xs) k d near ∙ get_or-drop start xs k d in
        subst (λ (y : Place). IsPlaceIn cells y) (sym is) (h (start + k) d (omega (arith, l, size, rest)))
