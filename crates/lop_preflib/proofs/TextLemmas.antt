-- Cuts and lines.
use Rattle.std.proofs.Common.{◌≡◌, ℕ, ◌+◌, ◌-◌, ◌<◌, ◌≤◌, Bool, true, false, List, [], ◌∷◌, length, take, drop, map, get_or, refl, sym, ◌∙◌, ap, cond, not, ◌||◌, arith}
use Rattle.std.specs.List.{slice_split, onto_first, position_or_len, before_first, after_first, list_any, All}
use Rattle.std.proofs.lemmas.List.{get_or_default, take_rest, length-map}
use Rattle.std.proofs.lemmas.List.Sums.{position_or_len_is}
use Rattle.std.proofs.lemmas.List.Folds.{list_any_none, list_any_at}
use Rattle.std.proofs.lemmas.List.Splits.{slice_split_first, slice_split_none, slice_split-cons_yes, slice_split-cons_no, length-slice_split}
use Rattle.lop_preflib.specs.Text.{is_lf, without_empty_end, without_cr, lines_of}

pub not_true : (b : Bool) → (b ≡ true → ⊥) → b ≡ false
not_true true h = absurd (h refl)
not_true false h = refl

-- what a search for a byte that passes the test tells of the cut there
module _ (p : ℕ → Bool) (bytes : List ℕ) where
  pub nowhere : ((k : ℕ) → 0 ≤ k → k < length bytes → p (get_or bytes k 0) ≡ true → ⊥) → list_any p bytes ≡ false
  nowhere none = list_any_none p bytes (λ k d within. ap p (get_or_default bytes k d 0 within) ∙ not_true (p (get_or bytes k 0)) (none k (omega arith) within))

  module _ (place : ℕ) (within : place < length bytes) (here : p (get_or bytes place 0) ≡ true) (before : (k : ℕ) → 0 ≤ k → k < place → p (get_or bytes k 0) ≡ true → ⊥) where
    first_place : position_or_len p bytes ≡ place
    first_place = position_or_len_is p bytes place 0 (omega (arith, within)) (λ k low. not_true (p (get_or bytes k 0)) (before k (omega arith) low)) (λ _. here)

    pub cut_at : (list_any p bytes ≡ true) × (take place bytes ≡ before_first p bytes) × (take (length bytes - (place + 1)) (drop (place + 1) bytes) ≡ after_first p bytes)
    cut_at = (
      list_any_at p bytes place 0 within here,
      ap (λ (n : ℕ). take n bytes) (sym first_place),
      take_rest bytes (place + 1) ∙ ap (λ (n : ℕ). drop (n + 1) bytes) (sym first_place),
    )

-- a byte that passes is there exactly where the first such place is within
pub within_any : (p : ℕ → Bool) (bytes : List ℕ) → list_any p bytes ≡ true → position_or_len p bytes < length bytes
within_any p [] some = absurd (cc some)
within_any p (b ∷ bytes) some = by (p b) refl (within_any p bytes) some
  where
    by : (t : Bool) → p b ≡ t → (list_any p bytes ≡ true → position_or_len p bytes < length bytes) → (t || list_any p bytes) ≡ true → cond (not t) (1 + position_or_len p bytes) 0 < length (b ∷ bytes)
    by true e others some' = omega arith
    by false e others some' = omega (arith, others some')

pub none_any : (p : ℕ → Bool) (bytes : List ℕ) → list_any p bytes ≡ false → All (λ b. p b ≡ false) bytes
none_any p bytes none = λ k d within. not_true (p (get_or bytes k d)) (λ yes. absurd (cc (none, list_any_at p bytes k d within yes)))

-- pieces, one by one
without_empty_end-cons : (piece : List ℕ) (pieces : List (List ℕ)) → 0 < length pieces → without_empty_end (piece ∷ pieces) ≡ piece ∷ without_empty_end pieces
without_empty_end-cons piece [] some = absurd (omega (arith, some))
without_empty_end-cons [] (next ∷ pieces) some = refl
without_empty_end-cons (b ∷ bs) (next ∷ pieces) some = refl

some_piece : (bytes : List ℕ) → 0 < length (slice_split is_lf bytes)
some_piece bytes = omega (arith, length-slice_split is_lf bytes)

-- a line that is ended
pub lines_of-ended : (bytes : List ℕ) → list_any is_lf bytes ≡ true → lines_of bytes ≡ without_cr (before_first is_lf bytes) ∷ lines_of (after_first is_lf bytes)
lines_of-ended bytes some =
    ap (λ (l : List (List ℕ)). map without_cr (without_empty_end l)) (slice_split_first is_lf bytes 0 (within_any is_lf bytes some))
    ∙ ap (map without_cr) (without_empty_end-cons (before_first is_lf bytes) (slice_split is_lf (after_first is_lf bytes)) (some_piece (after_first is_lf bytes)))

-- a last line that isn't
pub lines_of-last : (bytes : List ℕ) → 0 < length bytes → list_any is_lf bytes ≡ false → lines_of bytes ≡ without_cr bytes ∷ []
lines_of-last bytes some none =
    ap (λ (l : List (List ℕ)). map without_cr (without_empty_end l)) (slice_split_none is_lf bytes (none_any is_lf bytes none)) ∙ alone bytes some
  where
    alone : (piece : List ℕ) → 0 < length piece → map without_cr (without_empty_end (piece ∷ [])) ≡ without_cr piece ∷ []
    alone [] h = absurd (omega (arith, h))
    alone (b ∷ bs) h = refl

onto_first-length : (b : ℕ) (pieces : List (List ℕ)) → 0 < length pieces → length (without_empty_end (onto_first b pieces)) ≤ 1 + length (without_empty_end pieces)
onto_first-length b [] some = absurd (omega (arith, some))
onto_first-length b (piece ∷ []) some = omega arith
onto_first-length b ([] ∷ next ∷ pieces) some = omega arith
onto_first-length b ((d ∷ ds) ∷ next ∷ pieces) some = omega arith

pieces-le : (bytes : List ℕ) → length (without_empty_end (slice_split is_lf bytes)) ≤ length bytes
pieces-le [] = omega arith
pieces-le (b ∷ bytes) = by (is_lf b) refl (pieces-le bytes)
  where
    by : (t : Bool) → is_lf b ≡ t → length (without_empty_end (slice_split is_lf bytes)) ≤ length bytes → length (without_empty_end (slice_split is_lf (b ∷ bytes))) ≤ length (b ∷ bytes)
    by true e others = omega (arith, others, ap (λ (l : List (List ℕ)). length (without_empty_end l)) (slice_split-cons_yes is_lf b bytes e), ap length (without_empty_end-cons [] (slice_split is_lf bytes) (some_piece bytes)))
    by false e others = omega (arith, others, ap (λ (l : List (List ℕ)). length (without_empty_end l)) (slice_split-cons_no is_lf b bytes e), onto_first-length b (slice_split is_lf bytes) (some_piece bytes))

-- a text has at most as many lines as bytes
pub lines_of-le : (bytes : List ℕ) → length (lines_of bytes) ≤ length bytes
lines_of-le bytes = omega (arith, pieces-le bytes, length-map (without_empty_end (slice_split is_lf bytes)) without_cr)
