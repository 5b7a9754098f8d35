-- Pieces, one by one.
use Rattle.std.proofs.Common.{◌≡◌, ℕ, ◌+◌, ◌-◌, ◌<◌, ◌≤◌, zero, suc, Bool, true, false, ◌==◌, cond, List, [], ◌∷◌, ◌++◌, length, take, drop, get_or, ℤ, Option, None, Some, inl, inr, refl, sym, ◌∙◌, ap, subst, arith}
use Rattle.std.specs.List.{list_all, position_or_len, All}
use Rattle.std.specs.Str.{bytes_eq}
use Rattle.std.proofs.lemmas.Bool.{and_left, and_right, both_ways, cases_lt}
use Rattle.std.proofs.lemmas.List.{append_assoc, take_rest, take_all, at_drop_more}
use Rattle.std.proofs.lemmas.List.Folds.{list_all-append}
use Rattle.std.proofs.lemmas.List.Splits.{slice_split_first, slice_split_none}
use Rattle.std.proofs.lemmas.List.Sums.{fails_before_first}
use Rattle.lop_certtext.specs.declared.word.CertWord.{CertWord}
use Rattle.lop_certtext.specs.Line.{CertLine, word_text, is_signed, is_row, number_of, numbers_of, with_number, first_word, cert_words, row_of, pieces_reading, line_reading}
use Rattle.lop_certtext.specs.Reading.{pieces, is_in_range, are_in_range, behind}
use Rattle.lop_certtext.proofs.Lines.{all_signed-row}

-- what `&bytes[i..]` is
abbrev pub part_from : ℕ → List ℕ → List ℕ
part_from i bytes = take (length bytes - i) (drop i bytes)

module _ (bytes : List ℕ) (n : ℕ) (n_is : n ≡ position_or_len (λ b. b == 32) bytes) where
  -- a piece before a blank, and the pieces behind it
  pub pieces-more : n < length bytes → pieces bytes ≡ take n bytes ∷ pieces (part_from (n + 1) bytes)
  pieces-more more =
      let P : ℕ → Type 0 = λ m. pieces bytes ≡ take m bytes ∷ pieces (drop (m + 1) bytes) in
      subst P (sym n_is) (slice_split_first (λ b. b == 32) bytes 0 (omega arith))
      ∙ ap (λ (l : List ℕ). take n bytes ∷ pieces l) (sym (take_rest bytes (n + 1)))

  -- the last piece
  pub pieces-last : n ≡ length bytes → pieces bytes ≡ take n bytes ∷ []
  pieces-last all =
      let none : All (λ b. (b == 32) ≡ false) bytes = λ k d within. fails_before_first (λ b. b == 32) bytes k d (omega arith) in
      slice_split_none (λ b. b == 32) bytes none ∙ ap (λ (l : List ℕ). l ∷ []) (sym (take_all n bytes (omega arith)))

  pub pieces-first : n ≤ length bytes → (ws : List (List ℕ)) × (pieces bytes ≡ take n bytes ∷ ws)
  pieces-first within =
      elim (cases_lt n (length bytes)) [
        | inl more ↦ (pieces (part_from (n + 1) bytes), pieces-more more)
        | inr all ↦ ([], pieces-last (omega arith))
      ]

-- ---- the first word

-- a word that isn't the next one
pub first_word-other : (ws : List CertWord) (i : ℕ) (d : CertWord) (bytes : List ℕ) → i < length ws → bytes_eq (word_text (get_or ws i d)) bytes ≡ false → first_word (drop (i + 1) ws) bytes ≡ first_word (drop i ws) bytes
first_word-other ws i d bytes within other =
    let others = first_word (drop (i + 1) ws) bytes in
    sym (at_drop_more (λ (l : List CertWord). first_word l bytes) ws i d within ∙ ap (λ (t : Bool). cond t (Some (get_or ws i d)) others) other)

module _ (bytes word : List ℕ) (ws : List (List ℕ)) (is : pieces bytes ≡ word ∷ ws) where
  pub line_reading-no_word : first_word cert_words word ≡ None → line_reading bytes ≡ None
  line_reading-no_word none = ap pieces_reading is ∙ ap (λ (w : Option CertWord). row_of w (numbers_of ws)) none

  -- numbers that no row has
  pub line_reading-no_numbers : (w : CertWord) → first_word cert_words word ≡ Some w → are_in_range (numbers_of ws) ≡ false → line_reading bytes ≡ None
  line_reading-no_numbers w first out = ap pieces_reading is ∙ ap (λ (v : Option CertWord). row_of v (numbers_of ws)) first ∙ by (numbers_of ws) out
    where
      row : (ns : List ℤ) (t : Bool) → is_row w ns ≡ t → list_all is_signed ns ≡ false → cond {A = Option CertLine} t (Some (record { word = w; numbers = ns })) None ≡ None
      row ns true e out = absurd (both_ways (list_all is_signed ns) out (all_signed-row w ns e))
      row ns false e out = refl

      by : (ns : Option (List ℤ)) → are_in_range ns ≡ false → row_of (Some w) ns ≡ None
      by None out = refl
      by (Some ns) out = row ns (is_row w ns) refl out

  -- a word and numbers
  pub line_reading-row : (w : CertWord) (ns : List ℤ) (t : Bool) → first_word cert_words word ≡ Some w → numbers_of ws ≡ Some ns → is_row w ns ≡ t → line_reading bytes ≡ cond {A = Option CertLine} t (Some (record { word = w; numbers = ns })) None
  line_reading-row w ns t first rest e =
      ap pieces_reading is
      ∙ ap (λ (v : Option CertWord). row_of v (numbers_of ws)) first
      ∙ ap (λ (ms : Option (List ℤ)). row_of (Some w) ms) rest
      ∙ ap (λ (b : Bool). cond {A = Option CertLine} b (Some (record { word = w; numbers = ns })) None) e

module _ (bytes : List ℕ) (n : ℕ) (n_is : n ≡ position_or_len (λ b. b == 32) bytes) (w : CertWord) (first : first_word cert_words (take n bytes) ≡ Some w) (ns : List ℤ) (t : Bool) (row : is_row w ns ≡ t) where
  -- numbers behind a blank
  pub line_reading-numbers : n < length bytes → numbers_of (pieces (part_from (n + 1) bytes)) ≡ Some ns → line_reading bytes ≡ cond {A = Option CertLine} t (Some (record { word = w; numbers = ns })) None
  line_reading-numbers more rest = line_reading-row bytes (take n bytes) (pieces (part_from (n + 1) bytes)) (pieces-more bytes n n_is more) w ns t first rest row

  -- a word alone
  pub line_reading-alone : n ≡ length bytes → [] ≡ ns → line_reading bytes ≡ cond {A = Option CertLine} t (Some (record { word = w; numbers = ns })) None
  line_reading-alone all none = line_reading-row bytes (take n bytes) [] (pieces-last bytes n n_is all) w ns t first (ap (λ (l : List ℤ). Some l) none) row

-- ---- numbers

behind-out_of_range : (before : List ℤ) (ns : Option (List ℤ)) → are_in_range ns ≡ false → are_in_range (behind before ns) ≡ false
behind-out_of_range before None e = refl
behind-out_of_range before (Some ns) e = list_all-append is_signed before ns ∙ and_right (list_all is_signed before) (list_all is_signed ns) e

with_number-out_of_range : (n : Option ℤ) (ns : Option (List ℤ)) → is_in_range n ≡ false → are_in_range (with_number n ns) ≡ false
with_number-out_of_range None ns e = refl
with_number-out_of_range (Some n) None e = refl
with_number-out_of_range (Some n) (Some ns) e = and_left (is_signed n) (list_all is_signed ns) e

behind-with_number : (before : List ℤ) (n : ℤ) (ns : Option (List ℤ)) → behind before (with_number (Some n) ns) ≡ behind (before ++ n ∷ []) ns
behind-with_number before n None = refl
behind-with_number before n (Some ns) = ap (λ (l : List ℤ). Some l) (sym (append_assoc before (n ∷ []) ns))

pub behind-none : (ns : Option (List ℤ)) → behind [] ns ≡ ns
behind-none None = refl
behind-none (Some ns) = refl

module _ (bytes rest : List ℕ) (numbers : List ℤ) (so_far : behind numbers (numbers_of (pieces rest)) ≡ numbers_of (pieces bytes)) (n : ℕ) (n_is : n ≡ position_or_len (λ b. b == 32) rest) where
  -- a piece that is no number
  pub numbers_of-stops : n ≤ length rest → is_in_range (number_of (take n rest)) ≡ false → are_in_range (numbers_of (pieces bytes)) ≡ false
  numbers_of-stops within out =
      let first = pieces-first rest n n_is within in
      ap are_in_range (sym so_far ∙ ap (λ (ps : List (List ℕ)). behind numbers (numbers_of ps)) first.1)
      ∙ behind-out_of_range numbers (numbers_of (take n rest ∷ first.0)) (with_number-out_of_range (number_of (take n rest)) (numbers_of first.0) out)

  module _ (number : ℤ) (number_is : number_of (take n rest) ≡ Some number) where
    -- the last number
    pub numbers_of-last : n ≡ length rest → numbers_of (pieces bytes) ≡ Some (numbers ++ number ∷ [])
    numbers_of-last all =
        sym so_far
        ∙ ap (λ (ps : List (List ℕ)). behind numbers (numbers_of ps)) (pieces-last rest n n_is all)
        ∙ ap (λ (m : Option ℤ). behind numbers (with_number m (Some []))) number_is

    -- one number more
    pub numbers_of-more : n < length rest → behind (numbers ++ number ∷ []) (numbers_of (pieces (part_from (n + 1) rest))) ≡ numbers_of (pieces bytes)
    numbers_of-more more =
        let others = numbers_of (pieces (part_from (n + 1) rest)) in
        sym (behind-with_number numbers number others)
        ∙ ap (λ (m : Option ℤ). behind numbers (with_number m others)) (sym number_is)
        ∙ ap (λ (ps : List (List ℕ)). behind numbers (numbers_of ps)) (sym (pieces-more rest n n_is more))
        ∙ so_far

    -- it has a byte
    pub number-some : 0 < n
    number-some = by n number_is
      where
        by : (m : ℕ) → number_of (take m rest) ≡ Some number → 0 < m
        by zero e = absurd (cc)
        by (suc m) e = omega arith
