-- Words, one by one.
use Rattle.std.proofs.Common.{◌≡◌, ℕ, ◌+◌, ◌-◌, ◌<◌, ◌≤◌, Bool, true, false, not, cond, List, [], ◌∷◌, length, take, drop, get_or, nat_lt, filter, inl, inr, refl, sym, ◌∙◌, ap, subst, arith}
use Rattle.std.specs.List.{slice_split, position_or_len, prefix_len, onto_first, All}
use Rattle.std.proofs.lemmas.List.{drop_more, take_rest, take_all, drop_all, length-take-le}
use Rattle.std.proofs.lemmas.List.Sums.{length-filter, count_by-le-length, fails_before_first, passes_at_first, prefix_len-le-length, prefix_len_stops}
use Rattle.std.proofs.lemmas.List.Splits.{length-slice_split, slice_split_first, slice_split_none}
use Rattle.std.proofs.lemmas.Bool.{cases_lt}
use Rattle.std.proofs.lemmas.Bool.Decides.{nat_tests}
use Rattle.std.proofs.lemmas.Grind.{common_steps}
use Rattle.lop_lolib.specs.Words.{is_separator, words_of}

abbrev is_nonempty : List ℕ → Bool
is_nonempty word = nat_lt 0 (length word)

is_nonempty-some : (word : List ℕ) → 0 < length word → is_nonempty word ≡ true
is_nonempty-some word some = grind (arith, nat_tests)

-- a part with bytes is kept
filter-some : (word : List ℕ) (parts : List (List ℕ)) → 0 < length word → filter is_nonempty (word ∷ parts) ≡ word ∷ filter is_nonempty parts
filter-some word parts some = ap (λ (t : Bool). cond t (word ∷ filter is_nonempty parts) (filter is_nonempty parts)) (is_nonempty-some word some)

pub words_of-separator : (b : ℕ) (bytes : List ℕ) → is_separator b ≡ true → words_of (b ∷ bytes) ≡ words_of bytes
words_of-separator b bytes e = ap (λ (t : Bool). filter is_nonempty (cond t ([] ∷ slice_split is_separator bytes) (onto_first b (slice_split is_separator bytes)))) e

-- the separators in front change nothing
words_of-skip : (bytes : List ℕ) → words_of (drop (prefix_len is_separator bytes) bytes) ≡ words_of bytes
words_of-skip [] = refl
words_of-skip (b ∷ bytes) = by (is_separator b) refl (words_of-skip bytes)
  where
    by : (t : Bool) → is_separator b ≡ t → words_of (drop (prefix_len is_separator bytes) bytes) ≡ words_of bytes → words_of (drop (cond t (1 + prefix_len is_separator bytes) 0) (b ∷ bytes)) ≡ words_of (b ∷ bytes)
    by true e others =
        let inner : drop (1 + prefix_len is_separator bytes) (b ∷ bytes) ≡ drop (prefix_len is_separator bytes) bytes = grind (arith, common_steps) in
        ap words_of inner ∙ others ∙ sym (words_of-separator b bytes e)
    by false e others = refl

word_len-cons : (b : ℕ) (bytes : List ℕ) → is_separator b ≡ false → position_or_len is_separator (b ∷ bytes) ≡ 1 + position_or_len is_separator bytes
word_len-cons b bytes e = ap (λ (t : Bool). cond (not t) (1 + position_or_len is_separator bytes) 0) e

-- a word in front, and the separator behind it
words_of-word_ended : (bytes : List ℕ) → 0 < position_or_len is_separator bytes → position_or_len is_separator bytes < length bytes → words_of bytes ≡ take (position_or_len is_separator bytes) bytes ∷ words_of (drop (position_or_len is_separator bytes) bytes)
words_of-word_ended bytes some more =
    let n = position_or_len is_separator bytes in
    let word = take n bytes in
    let here : is_separator (get_or bytes n 0) ≡ true = passes_at_first is_separator bytes 0 more in
    let behind : words_of (drop n bytes) ≡ words_of (drop (n + 1) bytes) = ap words_of (drop_more bytes n 0 more) ∙ words_of-separator (get_or bytes n 0) (drop (n + 1) bytes) here in
    let kept : 0 < length word = omega (arith, length-take-le n bytes (omega arith)) in
    ap (filter is_nonempty) (slice_split_first is_separator bytes 0 more)
    ∙ filter-some word (slice_split is_separator (drop (n + 1) bytes)) kept
    ∙ ap (λ (ws : List (List ℕ)). word ∷ ws) (sym behind)

-- a word alone
pub words_of-word_alone : (bytes : List ℕ) → 0 < length bytes → position_or_len is_separator bytes ≡ length bytes → words_of bytes ≡ bytes ∷ []
words_of-word_alone bytes some all =
    let none : All (λ b. is_separator b ≡ false) bytes = λ k d within. fails_before_first is_separator bytes k d (omega arith) in
    ap (filter is_nonempty) (slice_split_none is_separator bytes none) ∙ filter-some bytes [] some

-- a word in front, and what is behind it
pub words_of-word : (bytes : List ℕ) (n : ℕ) → n ≡ position_or_len is_separator bytes → 0 < n → words_of bytes ≡ take n bytes ∷ words_of (drop n bytes)
words_of-word bytes n is some =
    elim (cases_lt n (length bytes)) [
      | inl more ↦
          let P : ℕ → Type 0 = λ m. words_of bytes ≡ take m bytes ∷ words_of (drop m bytes) in
          subst P (sym is) (words_of-word_ended bytes (omega arith) (omega arith))
      | inr all ↦
          let at_most : position_or_len is_separator bytes ≤ length bytes = prefix_len-le-length (λ b. not (is_separator b)) bytes in
          rw (take_all n bytes all, drop_all n bytes all) (words_of-word_alone bytes (omega arith) (omega arith))
    ]

-- what `&bytes[i..]` is
abbrev part_from : ℕ → List ℕ → List ℕ
part_from i bytes = take (length bytes - i) (drop i bytes)

module _ (bytes : List ℕ) (blank n : ℕ) (blank_is : blank ≡ prefix_len is_separator bytes) (n_is : n ≡ position_or_len is_separator (part_from blank bytes)) where
  skipped : words_of (part_from blank bytes) ≡ words_of bytes
  skipped = ap words_of (take_rest bytes blank) ∙ ap (λ (i : ℕ). words_of (drop i bytes)) blank_is ∙ words_of-skip bytes

  -- the first word, of n bytes behind the separators
  pub words_of-next : 0 < n → words_of bytes ≡ take n (part_from blank bytes) ∷ words_of (part_from n (part_from blank bytes))
  words_of-next some =
      let rest = part_from blank bytes in
      sym skipped ∙ words_of-word rest n n_is some ∙ ap (λ (l : List ℕ). take n rest ∷ words_of l) (sym (take_rest rest n))

  pub words_of-fewer : 0 < n → length (words_of (part_from n (part_from blank bytes))) < length (words_of bytes)
  words_of-fewer some = omega (arith, ap length (words_of-next some))

  -- no word
  pub words_of-none : n ≡ 0 → (words_of bytes ≡ []) × (words_of (part_from n (part_from blank bytes)) ≡ [])
  words_of-none none =
      elim (cases_lt blank (length bytes)) [
        | inl more ↦
            let stops : is_separator (get_or bytes blank 0) ≡ false = subst (λ (m : ℕ). is_separator (get_or bytes m 0) ≡ false) (sym blank_is) (prefix_len_stops is_separator bytes 0 (omega arith)) in
            let n_is' = n_is ∙ ap (position_or_len is_separator) (take_rest bytes blank ∙ drop_more bytes blank 0 more) ∙ word_len-cons (get_or bytes blank 0) (drop (blank + 1) bytes) stops in
            absurd (omega arith)
        | inr all ↦
            let rest = part_from blank bytes in
            let empty : rest ≡ [] = take_rest bytes blank ∙ drop_all blank bytes all in
            (sym skipped ∙ ap words_of empty, ap words_of (take_rest rest n ∙ ap (λ (l : List ℕ). drop n l) empty ∙ drop_all n [] (omega arith)))
      ]

-- there are at most as many words as bytes, and one more
pub words_of-at_most : (bytes : List ℕ) → length (words_of bytes) ≤ length bytes + 1
words_of-at_most bytes =
    let parts = slice_split is_separator bytes in
    omega (arith, length-filter is_nonempty parts, count_by-le-length is_nonempty parts, length-slice_split is_separator bytes, count_by-le-length is_separator bytes)
