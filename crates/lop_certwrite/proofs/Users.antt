-- The nodes whose records have lines, and the places of these.
use Rattle.std.proofs.Common.{◌≡◌, ◌≢◌, ℕ, ◌+◌, ◌-◌, ◌<◌, ◌≤◌, inl, inr, Bool, true, false, cond, eqb, List, [], ◌∷◌, ◌++◌, length, get_or, set, map, length-set, refl, sym, ◌∙◌, ap, subst, arith}
use Rattle.std.specs.Prelude.{◌==◌, ◌||◌, All, AllPairs}
use Rattle.std.specs.List.{list_any, position_or_len}
use Rattle.std.proofs.lemmas.Bool.{cases_lt, cases_eq, eqb-true, eq-eqb, ne_eqb, false≢true}
use Rattle.std.proofs.lemmas.Bool.Decides.{Decides-eqb}
use Rattle.std.proofs.lemmas.Grind.{get_or_default_zero}
use Rattle.std.proofs.lemmas.Map.Steps.{length-le_from_distinct_below}
use Rattle.std.proofs.lemmas.Map.Made.{IsDistinct-from_AllPairs}
use Rattle.std.proofs.lemmas.List.{length-map, get_or_append_left, length_push, get_or_push, get_or-set_same, get_or-set_other, get_or_past, get_or-map}
use Rattle.std.proofs.lemmas.List.Elements.{All-head, All-tail, All-push}
use Rattle.std.proofs.lemmas.List.Folds.{list_any_none, list_any_at, list_any-append, Any-from_list_any}
use Rattle.std.proofs.lemmas.List.Sums.{fails_before_first, passes_at_first}
use Rattle.std.proofs.lemmas.List.Quantifiers.{all_pairs_push}
use Rattle.lop_core.specs.Records.{number_at}
use Rattle.lop_certwrite.specs.CoreTree.{is_used, with_user, users_from, place_among}
use Rattle.lop_certwrite.specs.Names.{ArePlaces}

module _ (numbers : List ℕ) where
  abbrev has_number : ℕ → ℕ → Bool
  has_number node other = number_at numbers other == number_at numbers node

  -- ---- the users of a list of nodes

  abbrev pub AreApart : List ℕ → Type 0
  AreApart users = AllPairs (λ i j. number_at numbers i ≢ number_at numbers j) users

  pub users_more : (users xs ys : List ℕ) → users_from numbers users (xs ++ ys) ≡ users_from numbers (users_from numbers users xs) ys
  users_more users [] ys = refl
  users_more users (x ∷ xs) ys = users_more (with_user numbers users x) xs ys

  -- none of the nodes has the record
  pub unused : (users : List ℕ) (node k : ℕ) (d : ℕ) → is_used numbers users node ≡ false → k < length users → number_at numbers (get_or users k d) ≢ number_at numbers node
  unused users node k d e lt same =
      let f : true ≡ false = sym (list_any_at (has_number node) users k d lt (eq-eqb (number_at numbers (get_or users k d)) (number_at numbers node) same)) ∙ e in
      false≢true (sym f)

  module _ (P : ℕ → Type 0) where
    with_all : (b : Bool) (users : List ℕ) (node : ℕ) → All P users → P node → All P (cond b users (users ++ node ∷ []))
    with_all true users node h p = h
    with_all false users node h p = All-push P users node h p

    pub users_all : (users nodes : List ℕ) → All P users → All P nodes → All P (users_from numbers users nodes)
    users_all users [] h each = h
    users_all users (x ∷ xs) h each = users_all (with_user numbers users x) xs (with_all (is_used numbers users x) users x h (All-head P x xs each)) (All-tail P x xs each)

  with_apart : (b : Bool) (users : List ℕ) (node : ℕ) → is_used numbers users node ≡ b → AreApart users → AreApart (cond b users (users ++ node ∷ []))
  with_apart true users node e h = h
  with_apart false users node e h = all_pairs_push (λ i j. number_at numbers i ≢ number_at numbers j) users node h (λ k d lt. unused users node k d e lt)

  pub users_apart : (users nodes : List ℕ) → AreApart users → AreApart (users_from numbers users nodes)
  users_apart users [] h = h
  users_apart users (x ∷ xs) h = users_apart (with_user numbers users x) xs (with_apart (is_used numbers users x) users x refl h)

  -- a record that is used stays so
  used_with : (b : Bool) (users : List ℕ) (node other : ℕ) → is_used numbers users other ≡ true → is_used numbers (cond b users (users ++ node ∷ [])) other ≡ true
  used_with true users node other h = h
  used_with false users node other h = list_any-append (has_number other) users (node ∷ []) ∙ ap (λ (b : Bool). b || list_any (has_number other) (node ∷ [])) h

  pub used_kept : (users nodes : List ℕ) (other : ℕ) → is_used numbers users other ≡ true → is_used numbers (users_from numbers users nodes) other ≡ true
  used_kept users [] other h = h
  used_kept users (x ∷ xs) other h = used_kept (with_user numbers users x) xs other (used_with (is_used numbers users x) users x other h)

  used_own : (b : Bool) (users : List ℕ) (node : ℕ) → is_used numbers users node ≡ b → is_used numbers (cond b users (users ++ node ∷ [])) node ≡ true
  used_own true users node e = e
  used_own false users node e =
      list_any_at (has_number node) (users ++ node ∷ []) (length users) 0 (omega (arith, length_push users node))
      (eq-eqb (number_at numbers (get_or (users ++ node ∷ []) (length users) 0)) (number_at numbers node) (ap (number_at numbers) (get_or_push users node 0 (length users) refl)))

  -- each node's record is used
  pub used_all : (users before after : List ℕ) (node : ℕ) → is_used numbers (users_from numbers users (before ++ node ∷ after)) node ≡ true
  used_all users before after node =
      ap (λ (us : List ℕ). is_used numbers us node) (users_more users before (node ∷ after))
      ∙ used_kept (with_user numbers (users_from numbers users before) node) after node (used_own (is_used numbers (users_from numbers users before) node) (users_from numbers users before) node refl)

  -- the place of a record that is used
  pub record Found (users : List ℕ) (node : ℕ) : Type 0 where
    pub inside : position_or_len (has_number node) users < length users
    pub same : number_at numbers (get_or users (position_or_len (has_number node) users) 0) ≡ number_at numbers node

  pub found : (users : List ℕ) (node : ℕ) → is_used numbers users node ≡ true → Found users node
  found users node e =
      let some = Any-from_list_any (has_number node) users e in
      let within : position_or_len (has_number node) users < length users = elim (cases_lt some.0 (position_or_len (has_number node) users)) [
        | inl before ↦ absurd (false≢true (sym (fails_before_first (has_number node) users some.0 some.1 before) ∙ (ap (has_number node) some.3 ∙ some.4)))
        | inr past ↦ let lt : some.0 < length users = some.2 in omega arith
      ] in
      record {
        inside = within;
        same = eqb-true (number_at numbers (get_or users (position_or_len (has_number node) users) 0)) (number_at numbers node) (passes_at_first (has_number node) users 0 within);
      }

  -- ---- how many there are

  -- different numbers below another are at most as many
  pub few_below : (users : List ℕ) (n : ℕ) → AreApart users → All (λ i. number_at numbers i < n) users → length users ≤ n
  few_below users n apart below =
      let ns : List ℕ = map (number_at numbers) users in
      let size : length (map (number_at numbers) users) ≡ length users = length-map users (number_at numbers) in
      let at : (k d e : ℕ) → k < length users → get_or (map (number_at numbers) users) k d ≡ number_at numbers (get_or users k e) = λ k d e lt. get_or-map (number_at numbers) users k e d lt in
      let different : AllPairs (λ a b. a ≢ b) (map (number_at numbers) users) = λ i j d lt within same.
      apart i j 0 lt (omega arith) (sym (at i d 0 (omega arith)) ∙ (same ∙ at j d 0 (omega arith))) in
      let each : (q : ℕ) → list_any (eqb q) (map (number_at numbers) users) ≡ true → q < n = λ q e.
      let some = Any-from_list_any (eqb q) (map (number_at numbers) users) e in
      let lt : some.0 < length (map (number_at numbers) users) = some.2 in
      let is : q ≡ number_at numbers (get_or users some.0 0) = eqb-true q some.1 some.4 ∙ (sym some.3 ∙ at some.0 some.1 0 (omega arith)) in
      let b : number_at numbers (get_or users some.0 0) < n = below some.0 0 (omega arith) in
      omega arith in
      omega (arith, length-le_from_distinct_below (map (number_at numbers) users) n (IsDistinct-from_AllPairs Decides-eqb (map (number_at numbers) users) different) each)

  -- ---- places

  pub places_start : (places : List ℕ) → All (λ place. place ≡ 0) places → ArePlaces numbers [] places
  places_start places zeros = record {
    placed = λ i lt. absurd (omega arith);
    within = λ k lt some. absurd (some (zeros k 0 lt));
    owned = λ k lt some. absurd (some (zeros k 0 lt));
  }

  module _ (users places : List ℕ) (are : ArePlaces numbers users places) where
    -- the number of a user has a place
    pub user_below : (i : ℕ) → i < length users → number_at numbers (get_or users i 0) < length places
    user_below i lt = elim (cases_lt (number_at numbers (get_or users i 0)) (length places)) [
      | inl below ↦ below
      | inr past ↦ let none : get_or places (number_at numbers (get_or users i 0)) 0 ≡ 0 = get_or_past places (number_at numbers (get_or users i 0)) 0 past in let p = are.placed i lt in absurd (omega arith)
    ]

    places_apart : AreApart users
    places_apart i j d lt within same =
        let lt_i : i < length users = omega arith in
        let at_i : get_or users i d ≡ get_or users i 0 = get_or_default_zero users i d lt_i in
        let at_j : get_or users j d ≡ get_or users j 0 = get_or_default_zero users j d within in
        let p : get_or places (number_at numbers (get_or users i 0)) 0 ≡ i + 1 = are.placed i lt_i in
        let q : get_or places (number_at numbers (get_or users j 0)) 0 ≡ j + 1 = are.placed j within in
        let e : number_at numbers (get_or users i 0) ≡ number_at numbers (get_or users j 0) = ap (number_at numbers) (sym at_i) ∙ (same ∙ ap (number_at numbers) at_j) in
        let f : i + 1 ≡ j + 1 = sym p ∙ (ap (λ (k : ℕ). get_or places k 0) e ∙ q) in
        absurd (omega arith)

    pub users_few : length users ≤ length places
    users_few = few_below users (length places) places_apart
        (λ k d lt. let below : number_at numbers (get_or users k 0) < length places = user_below k lt in subst (λ (x : ℕ). number_at numbers x < length places) (sym (get_or_default_zero users k d lt)) below)

    module _ (node : ℕ) (inside : number_at numbers node < length places) where
      abbrev place : ℕ
      place = get_or places (number_at numbers node) 0

      -- a record without a place isn't used
      pub unplaced : get_or places (number_at numbers node) 0 ≡ 0 → is_used numbers users node ≡ false
      unplaced none = list_any_none (has_number node) users (λ k d lt. ne_eqb (number_at numbers (get_or users k d)) (number_at numbers node) (never k d lt))
        where
          never : (k d : ℕ) → k < length users → number_at numbers (get_or users k d) ≢ number_at numbers node
          never k d lt same =
              let at : get_or users k d ≡ get_or users k 0 = get_or_default_zero users k d lt in
              let p : get_or places (number_at numbers (get_or users k 0)) 0 ≡ k + 1 = are.placed k lt in
              let e : number_at numbers (get_or users k 0) ≡ number_at numbers node = ap (number_at numbers) (sym at) ∙ same in
              let f : k + 1 ≡ 0 = sym p ∙ (ap (λ (x : ℕ). get_or places x 0) e ∙ none) in
              omega arith

      -- one with a place is used
      pub placed_used : get_or places (number_at numbers node) 0 ≢ 0 → is_used numbers users node ≡ true
      placed_used some =
          let w : get_or places (number_at numbers node) 0 < length users + 1 = are.within (number_at numbers node) inside some in
          list_any_at (has_number node) users (get_or places (number_at numbers node) 0 - 1) 0 (omega (arith, some))
          (eq-eqb (number_at numbers (get_or users (get_or places (number_at numbers node) 0 - 1) 0)) (number_at numbers node) (are.owned (number_at numbers node) inside some))

      -- the place of a record that is used
      pub place_is : is_used numbers users node ≡ true → get_or places (number_at numbers node) 0 ≡ place_among numbers users node
      place_is e =
          let f = found users node e in
          sym (ap (λ (k : ℕ). get_or places k 0) f.same) ∙ are.placed (position_or_len (has_number node) users) f.inside

      -- one more user
      pub with_place : get_or places (number_at numbers node) 0 ≡ 0 → ArePlaces numbers (users ++ node ∷ []) (set places (number_at numbers node) (length users + 1))
      with_place none =
          let more : List ℕ = users ++ node ∷ [] in
          let next : List ℕ = set places (number_at numbers node) (length users + 1) in
          let size : length (users ++ node ∷ []) ≡ length users + 1 = length_push users node in
          let last : get_or (users ++ node ∷ []) (length users) 0 ≡ node = get_or_push users node 0 (length users) refl in
          let own : get_or (set places (number_at numbers node) (length users + 1)) (number_at numbers node) 0 ≡ length users + 1 = get_or-set_same places (number_at numbers node) (length users + 1) 0 inside in
          let old : (i : ℕ) → i < length users → get_or (users ++ node ∷ []) i 0 ≡ get_or users i 0 = λ i lt. get_or_append_left users (node ∷ []) 0 i lt in
          let free : (i : ℕ) → i < length users → number_at numbers (get_or users i 0) ≢ number_at numbers node = λ i lt. unused users node i 0 (unplaced none) lt in
          let other : (k : ℕ) → k ≢ number_at numbers node → get_or (set places (number_at numbers node) (length users + 1)) k 0 ≡ get_or places k 0 = λ k ne. get_or-set_other places (number_at numbers node) k (length users + 1) 0 ne in
          record {
            placed = λ i lt. elim (cases_lt i (length users)) [
              | inl before ↦ ap (λ (u : ℕ). get_or (set places (number_at numbers node) (length users + 1)) (number_at numbers u) 0) (old i before) ∙ (other (number_at numbers (get_or users i 0)) (free i before) ∙ are.placed i before)
              | inr past ↦ let is : i ≡ length users = omega arith in
                  ap (λ (j : ℕ). get_or (set places (number_at numbers node) (length users + 1)) (number_at numbers (get_or (users ++ node ∷ []) j 0)) 0) is
                  ∙ (ap (λ (u : ℕ). get_or (set places (number_at numbers node) (length users + 1)) (number_at numbers u) 0) last ∙ (own ∙ ap (λ (j : ℕ). j + 1) (sym is)))
            ];
            within = λ k lt some. elim (cases_eq k (number_at numbers node)) [
              | inl is ↦ let here : get_or (set places (number_at numbers node) (length users + 1)) k 0 ≡ length users + 1 = ap (λ (j : ℕ). get_or (set places (number_at numbers node) (length users + 1)) j 0) is ∙ own in omega arith
              | inr ne ↦ let there : get_or (set places (number_at numbers node) (length users + 1)) k 0 ≡ get_or places k 0 = other k ne in
                  let w : get_or places k 0 < length users + 1 = are.within k (omega (arith, length-set places (number_at numbers node) (length users + 1))) (λ z. some (there ∙ z)) in
                  omega arith
            ];
            owned = λ k lt some. elim (cases_eq k (number_at numbers node)) [
              | inl is ↦ let here : get_or (set places (number_at numbers node) (length users + 1)) k 0 ≡ length users + 1 = ap (λ (j : ℕ). get_or (set places (number_at numbers node) (length users + 1)) j 0) is ∙ own in
                  let at : get_or (set places (number_at numbers node) (length users + 1)) k 0 - 1 ≡ length users = omega arith in
                  ap (λ (j : ℕ). number_at numbers (get_or (users ++ node ∷ []) j 0)) at ∙ (ap (number_at numbers) last ∙ sym is)
              | inr ne ↦ let there : get_or (set places (number_at numbers node) (length users + 1)) k 0 ≡ get_or places k 0 = other k ne in
                  let lt_k : k < length places = omega (arith, length-set places (number_at numbers node) (length users + 1)) in
                  let w : get_or places k 0 < length users + 1 = are.within k lt_k (λ z. some (there ∙ z)) in
                  let nz : 1 ≤ get_or places k 0 = positive (get_or places k 0) (λ z. some (there ∙ z)) in
                  ap (λ (j : ℕ). number_at numbers (get_or (users ++ node ∷ []) (j - 1) 0)) there
                  ∙ (ap (number_at numbers) (old (get_or places k 0 - 1) (omega arith)) ∙ are.owned k lt_k (λ z. some (there ∙ z)))
            ];
          }
        where
          positive : (z : ℕ) → z ≢ 0 → 1 ≤ z
          positive z ne = omega (arith, ne)

    -- there is room for one more
    pub room_for : (node : ℕ) → number_at numbers node < length places → get_or places (number_at numbers node) 0 ≡ 0 → length users < length places
    room_for node inside none =
        let below : All (λ i. number_at numbers i < length places) (users ++ node ∷ []) = All-push (λ i. number_at numbers i < length places) users node
        (λ k d lt. let b : number_at numbers (get_or users k 0) < length places = user_below k lt in subst (λ (x : ℕ). number_at numbers x < length places) (sym (get_or_default_zero users k d lt)) b) inside in
        let apart : AreApart (users ++ node ∷ []) = all_pairs_push (λ i j. number_at numbers i ≢ number_at numbers j) users node places_apart (λ k d lt. unused users node k d (unplaced node inside none) lt) in
        omega (arith, length_push users node, few_below (users ++ node ∷ []) (length places) apart below)
