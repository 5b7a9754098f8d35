-- A line, entry by entry.
use Rattle.std.proofs.Common.{◌≡◌, ℕ, ◌+◌, ◌<◌, Bool, true, false, ◌==◌, cond, List, [], ◌∷◌, ◌++◌, length, take, map, get_or, ℤ, refl, sym, ◌∙◌, ap, append_assoc, arith}
use Rattle.std.specs.Fmt.{signed_decimal}
use Rattle.std.specs.List.{join_with_byte}
use Rattle.std.proofs.lemmas.Bool.Decides.{nat_tests}
use Rattle.std.proofs.lemmas.List.{map_more, length-map, length-take-le}
use Rattle.lop_gen.specs.EntryText.{entry_text}

-- a piece more
join-first : (c : ℕ) (ws : List (List ℕ)) (w : List ℕ) → length ws ≡ 0 → join_with_byte c (ws ++ w ∷ []) ≡ join_with_byte c ws ++ w
join-first c [] w none = refl
join-first c (x ∷ xs) w none = absurd (omega arith)

join-further : (c : ℕ) (ws : List (List ℕ)) (w : List ℕ) → 0 < length ws → join_with_byte c (ws ++ w ∷ []) ≡ join_with_byte c ws ++ (c ∷ w)
join-further c [] w some = absurd (omega arith)
join-further c (x ∷ []) w some = refl
join-further c (x ∷ y ∷ xs) w some =
    ap (λ (l : List ℕ). x ++ (c ∷ l)) (join-further c (y ∷ xs) w (omega arith)) ∙ sym (append_assoc x (c ∷ join_with_byte c (y ∷ xs)) (c ∷ w))

-- one column more
pub join-step : (row : List ℤ) (j : ℕ) (d : ℤ) → j < length row → join_with_byte 32 (map signed_decimal (take (j + 1) row)) ≡ join_with_byte 32 (map signed_decimal (take j row)) ++ entry_text j (get_or row j d)
join-step row j d below = ap (join_with_byte 32) (map_more signed_decimal row j d below) ∙ by (j == 0) refl
  where
    many : length (map signed_decimal (take j row)) ≡ j
    many = length-map (take j row) signed_decimal ∙ length-take-le j row (omega arith)

    by : (t : Bool) → (j == 0) ≡ t → join_with_byte 32 (map signed_decimal (take j row) ++ signed_decimal (get_or row j d) ∷ []) ≡ join_with_byte 32 (map signed_decimal (take j row)) ++ cond t (signed_decimal (get_or row j d)) (32 ∷ signed_decimal (get_or row j d))
    by true is = let first : j ≡ 0 = grind (arith, nat_tests) in join-first 32 (map signed_decimal (take j row)) (signed_decimal (get_or row j d)) (omega (arith, many))
    by false is = let further : 0 < j = grind (arith, nat_tests) in join-further 32 (map signed_decimal (take j row)) (signed_decimal (get_or row j d)) (omega (arith, many))
