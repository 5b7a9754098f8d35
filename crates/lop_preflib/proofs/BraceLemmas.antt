-- Orders without braces.
use Rattle.std.proofs.Common.{◌≡◌, ℕ, zero, suc, ◌+◌, ◌-◌, ◌<◌, ◌≤◌, ◌==◌, Bool, true, false, not, ◌&&◌, ◌||◌, cond, List, [], ◌∷◌, length, take, drop, get_or, refl, sym, ◌∙◌, ap, subst, arith}
use Rattle.std.specs.List.{list_any, slice_split, onto_first, prefix_len, suffix_len, All}
use Rattle.std.proofs.lemmas.List.{take_all}
use Rattle.std.proofs.lemmas.List.Elements.{All-take, All-drop, All-map}
use Rattle.std.proofs.lemmas.List.Folds.{list_any_none}
use Rattle.std.proofs.lemmas.List.Splits.{slice_split-cons_yes, slice_split-cons_no}
use Rattle.std.proofs.lemmas.Bool.Decides.{nat_tests}
use Rattle.lop_preflib.specs.Text.{is_blank, trim, without_front}
use Rattle.lop_preflib.specs.Line.{is_comma, pieces_in}
use Rattle.lop_preflib.specs.Groups.{opens, closes, without_opening, without_closing, ends_closing, item_of, is_open, is_brace, is_bad_piece, are_bad_ties}
use Rattle.lop_preflib.proofs.TextLemmas.{none_any}
use Rattle.lop_preflib.proofs.GroupsLemmas.{IsBalanced, balanced-more, is_open-balanced, bad_ties-none}

-- no byte of it is a brace
abbrev pub IsPlain : List ℕ → Type 0
IsPlain bytes = All (λ b. is_brace b ≡ false) bytes

plain-onto : (b : ℕ) (pieces : List (List ℕ)) → is_brace b ≡ false → All IsPlain pieces → All IsPlain (onto_first b pieces)
plain-onto b [] plain others = λ k d low. at k d low
  where
    front : IsPlain (b ∷ [])
    front zero d low = plain
    front (suc k) d low = absurd (omega (arith, low))

    at : (k : ℕ) (d : List ℕ) → k < length (onto_first b []) → IsPlain (get_or (onto_first b []) k d)
    at zero d low = front
    at (suc k) d low = absurd (omega (arith, low))
plain-onto b (piece ∷ pieces) plain others = λ k d low. at k d low
  where
    front : IsPlain (b ∷ piece)
    front zero d low = plain
    front (suc k) d low = others 0 [] (omega arith) k d (omega (arith, low))

    at : (k : ℕ) (d : List ℕ) → k < length (onto_first b (piece ∷ pieces)) → IsPlain (get_or (onto_first b (piece ∷ pieces)) k d)
    at zero d low = front
    at (suc k) d low = others (suc k) d (omega (arith, low))

plain-split : (text : List ℕ) → IsPlain text → All IsPlain (slice_split is_comma text)
plain-split [] plain = one
  where
    one : (k : ℕ) (d : List ℕ) → k < 1 → IsPlain (get_or ([] ∷ []) k d)
    one zero d low = plain
    one (suc k) d low = absurd (omega (arith, low))
plain-split (b ∷ text) plain = by (plain-split text (λ k d low. plain (suc k) d (omega (arith, low)))) (is_comma b) refl
  where
    cut : All IsPlain (slice_split is_comma text) → (k : ℕ) (d : List ℕ) → k < length ([] ∷ slice_split is_comma text) → IsPlain (get_or ([] ∷ slice_split is_comma text) k d)
    cut rest zero d low = λ j e less. absurd (omega (arith, less))
    cut rest (suc k) d low = rest k d (omega (arith, low))

    by : All IsPlain (slice_split is_comma text) → (t : Bool) → is_comma b ≡ t → All IsPlain (slice_split is_comma (b ∷ text))
    by rest true e = subst (λ (l : List (List ℕ)). All IsPlain l) (sym (slice_split-cons_yes is_comma b text e)) (cut rest)
    by rest false e = subst (λ (l : List (List ℕ)). All IsPlain l) (sym (slice_split-cons_no is_comma b text e)) (plain-onto b (slice_split is_comma text) (plain 0 0 (omega arith)) rest)

plain-trim : (bytes : List ℕ) → IsPlain bytes → IsPlain (trim bytes)
plain-trim bytes plain = All-take (λ b. is_brace b ≡ false) (length (without_front bytes) - suffix_len is_blank (without_front bytes)) (without_front bytes) (All-drop (λ b. is_brace b ≡ false) (prefix_len is_blank bytes) bytes plain)

plain-pieces : (text : List ℕ) → IsPlain text → All IsPlain (pieces_in text)
plain-pieces text plain = All-map IsPlain trim (slice_split is_comma text) (λ k d low. plain-trim (get_or (slice_split is_comma text) k d) (plain-split text plain k d low))

no_opening : (b : ℕ) → is_brace b ≡ false → (b == 123) ≡ false
no_opening b e = grind (arith, nat_tests)

no_closing : (b : ℕ) → is_brace b ≡ false → (b == 125) ≡ false
no_closing b e = grind (arith, nat_tests)

module _ (piece : List ℕ) (plain : IsPlain piece) where
  pub plain-opens : opens piece ≡ false
  plain-opens = by piece plain
    where
      by : (p : List ℕ) → IsPlain p → opens p ≡ false
      by [] h = refl
      by (b ∷ p) h = no_opening b (h 0 0 (omega arith))

  whole : without_opening piece ≡ piece
  whole = ap (λ (t : Bool). cond t (drop 1 piece) piece) plain-opens

  ends_open : ends_closing piece ≡ false
  ends_open = by piece plain
    where
      by : (p : List ℕ) → IsPlain p → ends_closing p ≡ false
      by [] h = refl
      by (b ∷ p) h = no_closing (get_or (b ∷ p) (length (b ∷ p) - 1) 0) (h (length (b ∷ p) - 1) 0 (omega arith))

  pub plain-closes : closes piece ≡ false
  plain-closes = ap ends_closing whole ∙ ends_open

  plain-item : item_of piece ≡ trim piece
  plain-item = ap (λ (w : List ℕ). trim (without_closing w)) whole ∙ ap (λ (t : Bool). trim (cond t (take (length piece - 1) piece) piece)) ends_open

  pub plain-good : is_bad_piece false piece ≡ false
  plain-good =
      ap (λ (t : Bool). (not (false || t) && closes piece) || list_any is_brace (item_of piece)) plain-opens
      ∙ ap (λ (t : Bool). t || list_any is_brace (item_of piece)) plain-closes
      ∙ ap (list_any is_brace) plain-item ∙ list_any_none is_brace (trim piece) (plain-trim piece plain)

balanced-plain : (pieces : List (List ℕ)) → All IsPlain pieces → (k : ℕ) → k ≤ length pieces → IsBalanced pieces k false
balanced-plain pieces plain zero low = refl
balanced-plain pieces plain (suc k) low =
    let piece = get_or pieces k [] in
    let here : IsPlain piece = plain k [] (omega (arith, low)) in
    let next = balanced-more pieces k false (omega (arith, low)) (balanced-plain pieces plain k (omega (arith, low))) (plain-good piece here) in
    let shut : (opens piece && not (closes piece)) ≡ false = ap (λ (t : Bool). t && not (closes piece)) (plain-opens piece here) in
    subst (λ (m : ℕ). IsBalanced pieces m false) {x = k + 1} {y = suc k} (omega arith) (subst (λ (b : Bool). IsBalanced pieces (k + 1) b) shut next)

-- no brace stands in the list: its ties are good
pub no_ties : (text : List ℕ) → list_any is_brace text ≡ false → are_bad_ties (pieces_in text) ≡ false
no_ties text none =
    let pieces = pieces_in text in
    let plain = plain-pieces text (none_any is_brace text none) in
    let open_at = λ (k : ℕ) (low : k ≤ length pieces). is_open-balanced pieces k false (balanced-plain pieces plain k low) in
    bad_ties-none pieces (λ k low. ap (λ (t : Bool). is_bad_piece t (get_or pieces k [])) (open_at k (omega (arith, low))) ∙ plain-good (get_or pieces k []) (plain k [] low))
    ∙ ap is_open (sym (take_all (length pieces) pieces (omega arith))) ∙ open_at (length pieces) (omega arith)
