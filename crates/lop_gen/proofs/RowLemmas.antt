-- Rows of one length, one after another in a list.
use Rattle.std.proofs.Common.{◌≡◌, ℕ, zero, suc, ◌+◌, ◌*◌, ◌<◌, List, [], ◌∷◌, ◌++◌, length, take, drop, map, get_or, ℤ, refl, sym, ◌∙◌, ap, arith}
use Rattle.std.specs.List.{flat_map, range_with_len}
use Rattle.std.proofs.Math.Seq.{take-append_seam, drop-append-add}
use Rattle.std.proofs.Math.Nat.{suc-mul}
use Rattle.std.proofs.lemmas.List.{ext_get_or, length-append, length-map, get_or-map}
use Rattle.std.proofs.lemmas.List.FromFn.{length-range_with_len, get_or-range_with_len}
use Rattle.lop_model.specs.Matrix.{matrix_of}

module _ {X : Type 0} (f : X → List ℤ) (n : ℕ) where
  pub length-rows : (xs : List X) → ((k : ℕ) (e : X) → k < length xs → length (f (get_or xs k e)) ≡ n) → length (flat_map f xs) ≡ length xs * n
  length-rows [] each = omega arith
  length-rows (x ∷ xs) each =
      let first : length (f x) ≡ n = each 0 x (omega arith) in
      let others : length (flat_map f xs) ≡ length xs * n = length-rows xs (λ k e below. each (suc k) e (omega arith)) in
      omega (arith, length-append (f x) (flat_map f xs), first, others, suc-mul (length xs) n)

  -- the i-th row
  pub row_at : (xs : List X) (i : ℕ) (e : X) → ((k : ℕ) (e : X) → k < length xs → length (f (get_or xs k e)) ≡ n) → i < length xs → take n (drop (i * n) (flat_map f xs)) ≡ f (get_or xs i e)
  row_at [] i e each within = absurd (omega arith)
  row_at (x ∷ xs) zero e each within =
      let first : length (f x) ≡ n = each 0 x (omega arith) in
      let none : zero * n ≡ 0 = omega arith in
      ap (λ (k : ℕ). take n (drop k (f x ++ flat_map f xs))) none ∙ ap (λ (k : ℕ). take k (f x ++ flat_map f xs)) (sym first) ∙ take-append_seam (f x) (flat_map f xs)
  row_at (x ∷ xs) (suc i) e each within =
      let first : length (f x) ≡ n = each 0 x (omega arith) in
      let place : suc i * n ≡ length (f x) + i * n = omega (arith, suc-mul i n, first) in
      ap (λ (k : ℕ). take n (drop k (f x ++ flat_map f xs))) place
      ∙ ap (take n) (drop-append-add (f x) (flat_map f xs) (i * n))
      ∙ row_at xs i e (λ k e below. each (suc k) e (omega arith)) (omega arith)

  -- the matrix of all rows, of which there are n
  pub rows-matrix_of : (xs : List X) → length xs ≡ n → ((k : ℕ) (e : X) → k < length xs → length (f (get_or xs k e)) ≡ n) → (matrix_of n (flat_map f xs)).rows ≡ map f xs
  rows-matrix_of xs long each =
      let range = range_with_len 0 n in
      let cut : ℕ → List ℤ = λ i. take n (drop (i * n) (flat_map f xs)) in
      ext_get_or [] (map cut range) (map f xs) (omega (arith, length-map range cut, length-map xs f, length-range_with_len 0 n))
      (λ i below.
      let inside : i < n = omega (arith, length-map range cut, length-range_with_len 0 n) in
      let at : get_or range i 0 ≡ i = omega (arith, get_or-range_with_len 0 n i 0 inside) in
      row_of xs i inside long each cut refl (get_or-map cut range i 0 [] (omega (arith, length-range_with_len 0 n)) ∙ ap cut at))
    where
      row_of : (xs : List X) (i : ℕ) → i < n → length xs ≡ n → ((k : ℕ) (e : X) → k < length xs → length (f (get_or xs k e)) ≡ n) → (cut : ℕ → List ℤ) → cut ≡ (λ i. take n (drop (i * n) (flat_map f xs))) → {row : List ℤ} → row ≡ cut i → row ≡ get_or (map f xs) i []
      row_of [] i inside long each cut is row_is = absurd (omega arith)
      row_of (x ∷ xs) i inside long each cut is row_is =
          row_is ∙ ap (λ (g : ℕ → List ℤ). g i) is ∙ row_at (x ∷ xs) i x each (omega arith) ∙ sym (get_or-map f (x ∷ xs) i x [] (omega arith))
