-- The fresh cuts beside the index, and how they are merged into it.
use Rattle.std.proofs.Common.{◌≡◌, ◌≢◌, ℕ, ◌+◌, ◌-◌, ◌<◌, ◌≤◌, List, [], ◌∷◌, ◌++◌, length, get_or, set, length-set, take, drop, inl, inr, arith, sym, ◌∙◌, ap, subst, refl, true, false, min}
use Rattle.std.specs.Prelude.{Contains, Result, Ok, Err, IfOk, IfErr, is_err, Bool, if◌then◌else◌}
use Rattle.std.specs.declared.cmp.Ordering.TheVariants.{Less, Greater}
use Rattle.std.proofs.lemmas.Bool.{cases_lt, cases_eq}
use Rattle.std.specs.List.{CopiedTo, SameBelow, SameFrom}
use Rattle.std.proofs.lemmas.List.{length-take, length-take-le, get_or-set_same, get_or-set_other, length-drop, length_push, get_or-take, get_or-drop, get_or_default, get_or_append_left, get_or_push, take-append-le, drop-append-le, take_all, drop_all}
use Rattle.lop_cuts.specs.declared.kind.CutKind.{CutKind}
use Rattle.lop_cuts.specs.declared.kind.CutKind.TheVariants.{Dicycle}
use Rattle.lop_cuts.specs.Kind.{IsCut}
use Rattle.lop_core.specs.Records.{cut_at, is_new, AreDifferentCuts}
use Rattle.lop_core.specs.CutIndex.{cut_order, IsCutIndex, IsNumberOf, IsGap, ArePending}
use Rattle.lop_core.proofs.CutIndexLemmas.{cut_order-trans, less_turned, greater_turned, gap_absent, absent_new, new_absent, number_not_new, AreDifferentCuts-push}

abbrev no_cut : CutKind
no_cut = Dicycle (0 ∷ 0 ∷ 0 ∷ [])

-- ---- numbers of the first cuts and of the later ones

pub known_number : (cuts : List CutKind) (known : ℕ) (cut : CutKind) (number : ℕ) → IsNumberOf (take known cuts) cut number → IsNumberOf cuts cut number
known_number cuts known cut number is =
    let len : length (take known cuts) ≡ min known (length cuts) = length-take known cuts in
    record {
      inside = omega (arith, is.inside, len);
      is_there = sym (get_or-take known cuts number no_cut (omega (arith, is.inside, len))) ∙ is.is_there;
    }

pub later_number : (cuts : List CutKind) (known : ℕ) (cut : CutKind) (number : ℕ) → known ≤ length cuts → IsNumberOf (drop known cuts) cut number → IsNumberOf cuts cut (known + number)
later_number cuts known cut number le is =
    let len : length (drop known cuts) ≡ length cuts - known = length-drop known cuts in
    record { inside = omega (arith, is.inside, len); is_there = sym (get_or-drop known cuts number no_cut) ∙ is.is_there }

-- a cut at the end of the list
pub pushed_number : (cuts : List CutKind) (cut : CutKind) → IsNumberOf (cuts ++ cut ∷ []) cut (length cuts)
pushed_number cuts cut = let more : length (cuts ++ cut ∷ []) ≡ length cuts + 1 = length_push cuts cut in record { inside = omega arith; is_there = get_or_push cuts cut no_cut (length cuts) refl }

-- a cut that is neither among the first ones nor among the later ones is nowhere
pub apart_absent : (cuts : List CutKind) (known : ℕ) (cut : CutKind) → known ≤ length cuts → ((i : ℕ) → i < length (take known cuts) → cut_at (take known cuts) i ≢ cut) → ((i : ℕ) → i < length (drop known cuts) → cut_at (drop known cuts) i ≢ cut)
    → (i : ℕ) → i < length cuts → cut_at cuts i ≢ cut
apart_absent cuts known cut le first later i lt e =
    let short : length (take known cuts) ≡ min known (length cuts) = length-take known cuts in
    let long : length (drop known cuts) ≡ length cuts - known = length-drop known cuts in
    elim (cases_lt i known) [
      | inl below ↦ first i (omega (arith, short)) (get_or-take known cuts i no_cut below ∙ e)
      | inr above ↦
          let up : known + (i - known) ≡ i = omega arith in
          later (i - known) (omega (arith, long)) (get_or-drop known cuts (i - known) no_cut ∙ ap (cut_at cuts) up ∙ e)
    ]

module _ (cuts : List CutKind) (index fresh places : List ℕ) (h : ArePending cuts index fresh places) where
  pub known-le : length index ≤ length cuts
  known-le = let len : length (take (length index) cuts) ≡ min (length index) (length cuts) = length-take (length index) cuts in omega (arith, len, h.known.same_length)

  -- where both searches find a gap, the cut is new
  pub pending_absent : (cut : CutKind) (place at : ℕ) → IsGap (take (length index) cuts) index cut place → IsGap (drop (length index) cuts) fresh cut at → (i : ℕ) → i < length cuts → cut_at cuts i ≢ cut
  pending_absent cut place at gap later = apart_absent cuts (length index) cut known-le (gap_absent (take (length index) cuts) index cut place h.known gap) (gap_absent (drop (length index) cuts) fresh cut at h.later later)

  pub pending_new : (cut : CutKind) (place at : ℕ) → IsGap (take (length index) cuts) index cut place → IsGap (drop (length index) cuts) fresh cut at → is_new cuts cut ≡ true
  pending_new cut place at gap later = absent_new cuts cut (pending_absent cut place at gap later)

  -- one more fresh cut
  pub pending_more : (cut : CutKind) (place : ℕ) (fresh' : List ℕ) → IsGap (take (length index) cuts) index cut place → IsCutIndex (drop (length index) (cuts ++ cut ∷ [])) fresh' → ArePending (cuts ++ cut ∷ []) index fresh' (places ++ place ∷ [])
  pending_more cut place fresh' gap longer =
      let first : take (length index) (cuts ++ cut ∷ []) ≡ take (length index) cuts = take-append-le (length index) cuts (cut ∷ []) known-le in
      let rest : drop (length index) (cuts ++ cut ∷ []) ≡ drop (length index) cuts ++ cut ∷ [] = drop-append-le (length index) cuts (cut ∷ []) known-le in
      let long : length (drop (length index) (cuts ++ cut ∷ [])) ≡ length (drop (length index) cuts) + 1 = ap length rest ∙ length_push (drop (length index) cuts) cut in
      let more : length (places ++ place ∷ []) ≡ length places + 1 = length_push places place in
      record {
        known = subst (λ (cs : List CutKind). IsCutIndex cs index) (sym first) h.known;
        later = longer;
        placed = omega (arith, longer.same_length, h.later.same_length, h.placed, long, more);
        gaps = λ j lt. elim (cases_lt j (length places)) [
          | inl below ↦
              let inside : j < length (drop (length index) cuts) = omega (arith, h.placed, h.later.same_length) in
              let same : cut_at (drop (length index) (cuts ++ cut ∷ [])) j ≡ cut_at (drop (length index) cuts) j = ap (λ (cs : List CutKind). cut_at cs j) rest ∙ get_or_append_left (drop (length index) cuts) (cut ∷ []) no_cut j inside in
              let at : get_or (places ++ place ∷ []) j 0 ≡ get_or places j 0 = get_or_append_left places (place ∷ []) 0 j below in
              rw (first, same, at) (h.gaps j below)
          | inr above ↦
              let last : j ≡ length places = omega (arith, more) in
              let here : cut_at (drop (length index) (cuts ++ cut ∷ [])) j ≡ cut = ap (λ (cs : List CutKind). cut_at cs j) rest ∙ get_or_push (drop (length index) cuts) cut no_cut j (omega (arith, h.placed, h.later.same_length)) in
              let at : get_or (places ++ place ∷ []) j 0 ≡ place = get_or_push places place 0 j (sym last) in
              rw (first, here, at) gap
        ];
      }

-- no cut is fresh
pub pending_none : (cuts : List CutKind) (index : List ℕ) → IsCutIndex cuts index → ArePending cuts index [] []
pending_none cuts index is =
    let all : take (length index) cuts ≡ cuts = take_all (length index) cuts (omega (arith, is.same_length)) in
    let none : drop (length index) cuts ≡ [] = drop_all (length index) cuts (omega (arith, is.same_length)) in
    record {
      known = subst (λ (cs : List CutKind). IsCutIndex cs index) (sym all) is;
      later = subst (λ (cs : List CutKind). IsCutIndex cs []) (sym none) no_index;
      placed = refl;
      gaps = λ j lt. absurd (omega arith);
    }
  where
    no_index : IsCutIndex [] []
    no_index = record { same_length = refl; below = λ k d lt. absurd (omega arith); rising = λ i j d lt within. absurd (omega arith); every = λ i lt. absurd (omega arith) }

-- the answer of the second search says whether a cut is new that the first didn't find
pub pending_missed : (cuts later : List CutKind) (index fresh places fresh' : List ℕ) (cut : CutKind) (place : ℕ) (r : Result ℕ ℕ) (b : Bool) → ArePending cuts index fresh places → later ≡ drop (length index) cuts → fresh' ≡ fresh
    → IsGap (take (length index) cuts) index cut place → IfOk r (λ number. IsNumberOf later cut number) → IfErr r (λ at. IsGap later fresh' cut at) → b ≡ is_err r → b ≡ is_new cuts cut
pending_missed cuts later index fresh places fresh' cut place (Ok number) b h el ef gap found missed e =
    let is : IsNumberOf (drop (length index) cuts) cut number = rw el at found in
    e ∙ sym (number_not_new cuts cut (length index + number) (later_number cuts (length index) cut number (known-le cuts index fresh places h) is))
pending_missed cuts later index fresh places fresh' cut place (Err at) b h el ef gap found missed e = e ∙ sym (pending_new cuts index fresh places h cut place at gap (rw (el, ef) at missed))

-- the cuts still differ where a cut that is new came to the end
pub different_more : (cuts more : List CutKind) (cut : CutKind) → AreDifferentCuts cuts → IsCut cut → more ≡ (if is_new cuts cut then cuts ++ cut ∷ [] else cuts) → AreDifferentCuts more
different_more cuts more cut is one e = go (is_new cuts cut) refl where
  go : (b : Bool) → is_new cuts cut ≡ b → AreDifferentCuts more
  go true new = subst AreDifferentCuts (sym (e ∙ ap (λ (b : Bool). if b then cuts ++ cut ∷ [] else cuts) new)) (AreDifferentCuts-push cuts cut is one (new_absent cuts cut new))
  go false old = subst AreDifferentCuts (sym (e ∙ ap (λ (b : Bool). if b then cuts ++ cut ∷ [] else cuts) old)) is

-- ---- the merge

-- the first cut is less than the second
abbrev pub IsBelow : List CutKind → ℕ → ℕ → Type 0
IsBelow cuts a b = cut_order (cut_at cuts a) (cut_at cuts b) ≡ Less

below_by : (cuts : List CutKind) (a b a' b' : ℕ) → a' ≡ a → b' ≡ b → IsBelow cuts a b → IsBelow cuts a' b'
below_by cuts a b a' b' ea eb o = rw (ea, eb) o

-- a number of the merged part: one of the index from low on, or a fresh one from left on
pub data Source (index fresh : List ℕ) (low left x : ℕ) : Type 0 where
  of_index : (k : ℕ) → low ≤ k → k < length index → x ≡ get_or index k 0 → Source index fresh low left x
  of_fresh : (j : ℕ) → left ≤ j → j < length fresh → x ≡ length index + get_or fresh j 0 → Source index fresh low left x

-- the number stands in the list, at the place or behind it
pub record HasFrom (list : List ℕ) (start x : ℕ) : Type 0 where
  pub place : ℕ
  pub behind : start ≤ place
  pub inside : place < length list
  pub is : get_or list place 0 ≡ x

-- the place of a fresh number in the index
abbrev pub place_of : List ℕ → List ℕ → ℕ → ℕ
place_of fresh places j = get_or places (get_or fresh j 0) 0

-- all but so many fresh numbers are merged, into what the index has from low on
pub record IsMerged (cuts : List CutKind) (index fresh places : List ℕ) (low left : ℕ) (list : List ℕ) : Type 0 where
  pub same_length : length list ≡ length index + length fresh
  pub low_inside : low ≤ length index
  pub left_inside : left ≤ length fresh
  pub below : (k : ℕ) → k < low → get_or list k 0 ≡ get_or index k 0
  pub rising : (i j : ℕ) → low + left ≤ i → i < j → j < length list → IsBelow cuts (get_or list i 0) (get_or list j 0)
  pub source : (i : ℕ) → low + left ≤ i → i < length list → Source index fresh low left (get_or list i 0)
  pub of_index_all : (k : ℕ) → low ≤ k → k < length index → HasFrom list (low + left) (get_or index k 0)
  pub of_fresh_all : (j : ℕ) → left ≤ j → j < length fresh → HasFrom list (low + left) (length index + get_or fresh j 0)
  pub behind : (j : ℕ) → left ≤ j → j < length fresh → low ≤ place_of fresh places j
  pub before : (j : ℕ) → j < left → place_of fresh places j ≤ low

module _ (cuts : List CutKind) (index fresh places : List ℕ) (h : ArePending cuts index fresh places) where
  length_parts : length index + length fresh ≡ length cuts
  length_parts = let len : length (drop (length index) cuts) ≡ length cuts - length index = length-drop (length index) cuts in omega (arith, len, h.later.same_length, known-le cuts index fresh places h)

  index_below : (k : ℕ) → k < length index → get_or index k 0 < length index
  index_below k lt = omega (arith, h.known.below k 0 lt, h.known.same_length)

  fresh_below : (j : ℕ) → j < length fresh → get_or fresh j 0 < length fresh
  fresh_below j lt = omega (arith, h.later.below j 0 lt, h.later.same_length)

  known_cut : (x : ℕ) → x < length index → cut_at (take (length index) cuts) x ≡ cut_at cuts x
  known_cut x lt = get_or-take (length index) cuts x no_cut lt

  later_cut : (x : ℕ) → cut_at (drop (length index) cuts) x ≡ cut_at cuts (length index + x)
  later_cut x = get_or-drop (length index) cuts x no_cut

  gap_of : (j : ℕ) → j < length fresh → IsGap (take (length index) cuts) index (cut_at (drop (length index) cuts) (get_or fresh j 0)) (place_of fresh places j)
  gap_of j lt = h.gaps (get_or fresh j 0) (omega (arith, fresh_below j lt, h.placed))

  index_index : (i k : ℕ) → i < k → k < length index → IsBelow cuts (get_or index i 0) (get_or index k 0)
  index_index i k lt inside =
      let o = h.known.rising i k 0 lt inside in
      rw (sym (known_cut (get_or index i 0) (index_below i (omega arith))), sym (known_cut (get_or index k 0) (index_below k inside))) o

  fresh_fresh : (i j : ℕ) → i < j → j < length fresh → IsBelow cuts (length index + get_or fresh i 0) (length index + get_or fresh j 0)
  fresh_fresh i j lt inside =
      let o = h.later.rising i j 0 lt inside in
      rw (sym (later_cut (get_or fresh i 0)), sym (later_cut (get_or fresh j 0))) o

  index_fresh : (k j : ℕ) → j < length fresh → k < place_of fresh places j → IsBelow cuts (get_or index k 0) (length index + get_or fresh j 0)
  index_fresh k j inside lt =
      let gap = gap_of j inside in
      let o = gap.less k lt in
      rw (sym (known_cut (get_or index k 0) (index_below k (omega (arith, gap.inside)))), sym (later_cut (get_or fresh j 0))) o

  fresh_index : (j k : ℕ) → j < length fresh → place_of fresh places j ≤ k → k < length index → IsBelow cuts (length index + get_or fresh j 0) (get_or index k 0)
  fresh_index j k inside le lt =
      let gap = gap_of j inside in
      let o = greater_turned _ _ (gap.greater k le lt) in
      rw (sym (later_cut (get_or fresh j 0)), sym (known_cut (get_or index k 0) (index_below k lt))) o

  -- the places rise with the cuts
  places_rise : (i j : ℕ) → i < j → j < length fresh → place_of fresh places i ≤ place_of fresh places j
  places_rise i j lt inside = elim (cases_lt (place_of fresh places j) (place_of fresh places i)) [
    | inl over ↦
        let gap = gap_of i (omega arith) in
        let up = fresh_index j (place_of fresh places j) inside (omega arith) (omega (arith, gap.inside)) in
        let down = index_fresh (place_of fresh places j) i (omega arith) over in
        let other = cut_order-trans _ _ _ up down in
        let turned = less_turned _ _ (fresh_fresh i j lt inside) in
        let f : Less ≡ Greater = sym other ∙ turned in
        absurd (cc)
    | inr le ↦ le
  ]

  -- the index with as many zeros behind it
  pub merge_start : (list : List ℕ) → take (length index) list ≡ index → length list ≡ length index + length fresh → IsMerged cuts index fresh places (length index) (length fresh) list
  merge_start list front long = record {
    same_length = long;
    low_inside = omega arith;
    left_inside = omega arith;
    below = λ k lt. sym (get_or-take (length index) list k 0 lt) ∙ ap (λ (xs : List ℕ). get_or xs k 0) front;
    rising = λ i j le lt inside. absurd (omega (arith, long));
    source = λ i le inside. absurd (omega (arith, long));
    of_index_all = λ k le lt. absurd (omega arith);
    of_fresh_all = λ j le lt. absurd (omega arith);
    behind = λ j le lt. absurd (omega arith);
    before = λ j lt. (gap_of j lt).inside;
  }

  -- one more fresh number
  module _ (low left : ℕ) (list list' : List ℕ) (m : IsMerged cuts index fresh places low (left + 1) list) (same_length : length list' ≡ length list)
      (first_is : get_or list' (place_of fresh places left + left) 0 ≡ length index + get_or fresh left 0)
      (below_is : (k : ℕ) → k < place_of fresh places left + left → get_or list' k 0 ≡ get_or list k 0)
      (moved_is : (k : ℕ) → place_of fresh places left ≤ k → k < low → get_or list' (k + left + 1) 0 ≡ get_or list k 0)
      (above_is : (k : ℕ) → low + left + 1 ≤ k → get_or list' k 0 ≡ get_or list k 0) where
    inside : left < length fresh
    inside = omega (arith, m.left_inside)

    at_most : place_of fresh places left ≤ low
    at_most = m.before left (omega arith)

    -- where a number of the merged part comes from
    data Where (i : ℕ) : Type 0 where
      is_first : i ≡ place_of fresh places left + left → get_or list' i 0 ≡ length index + get_or fresh left 0 → Where i
      is_moved : (k : ℕ) → place_of fresh places left ≤ k → k < low → i ≡ k + left + 1 → get_or list' i 0 ≡ get_or index k 0 → Where i
      is_above : low + (left + 1) ≤ i → get_or list' i 0 ≡ get_or list i 0 → Where i

    where_is : (i : ℕ) → place_of fresh places left + left ≤ i → Where i
    where_is i le = elim (cases_eq i (place_of fresh places left + left)) [
      | inl same ↦ is_first same (ap (λ k. get_or list' k 0) same ∙ first_is)
      | inr other ↦ elim (cases_lt i (low + left + 1)) [
        | inl moved ↦
            let up : (i - (left + 1)) + left + 1 ≡ i = omega arith in
            let down : i - (left + 1) < low = omega arith in
            is_moved (i - (left + 1)) (omega arith) down (sym up) (ap (λ k. get_or list' k 0) (sym up) ∙ moved_is (i - (left + 1)) (omega arith) down ∙ m.below (i - (left + 1)) down)
        | inr above ↦ is_above (omega arith) (above_is i (omega arith))
      ]
    ]

    step_rising : (i j : ℕ) → place_of fresh places left + left ≤ i → i < j → j < length list' → IsBelow cuts (get_or list' i 0) (get_or list' j 0)
    step_rising i j le lt within = elim (where_is i le) [
      | is_first ei xi ↦ elim (where_is j (omega arith)) [
        | is_first ej xj ↦ absurd (omega arith)
        | is_moved k pk kl ej xj ↦ below_by cuts _ _ _ _ xi xj (fresh_index left k inside pk (omega (arith, m.low_inside)))
        | is_above aj xj ↦ elim (m.source j aj (omega (arith, same_length))) [
          | of_index k lk kl x ↦ below_by cuts _ _ _ _ xi (xj ∙ x) (fresh_index left k inside (omega (arith, at_most)) kl)
          | of_fresh f lf fl x ↦ below_by cuts _ _ _ _ xi (xj ∙ x) (fresh_fresh left f (omega arith) fl)
        ]
      ]
      | is_moved k pk kl ei xi ↦ elim (where_is j (omega arith)) [
        | is_first ej xj ↦ absurd (omega arith)
        | is_moved k' pk' kl' ej xj ↦ below_by cuts _ _ _ _ xi xj (index_index k k' (omega arith) (omega (arith, m.low_inside)))
        | is_above aj xj ↦ elim (m.source j aj (omega (arith, same_length))) [
          | of_index k' lk' kl' x ↦ below_by cuts _ _ _ _ xi (xj ∙ x) (index_index k k' (omega arith) kl')
          | of_fresh f lf fl x ↦ below_by cuts _ _ _ _ xi (xj ∙ x) (index_fresh k f fl (omega (arith, m.behind f lf fl)))
        ]
      ]
      | is_above ai xi ↦ elim (where_is j (omega arith)) [
        | is_first ej xj ↦ absurd (omega (arith, at_most))
        | is_moved k' pk' kl' ej xj ↦ absurd (omega arith)
        | is_above aj xj ↦ below_by cuts _ _ _ _ xi xj (m.rising i j ai lt (omega (arith, same_length)))
      ]
    ]

    step_source : (i : ℕ) → place_of fresh places left + left ≤ i → i < length list' → Source index fresh (place_of fresh places left) left (get_or list' i 0)
    step_source i le within = elim (where_is i le) [
      | is_first ei xi ↦ of_fresh left (omega arith) inside xi
      | is_moved k pk kl ei xi ↦ of_index k pk (omega (arith, m.low_inside)) xi
      | is_above ai xi ↦ elim (m.source i ai (omega (arith, same_length))) [
        | of_index k lk kl x ↦ of_index k (omega (arith, at_most)) kl (xi ∙ x)
        | of_fresh f lf fl x ↦ of_fresh f (omega arith) fl (xi ∙ x)
      ]
    ]

    kept : (x : ℕ) → HasFrom list (low + (left + 1)) x → HasFrom list' (place_of fresh places left + left) x
    kept x p = record {
      place = p.place;
      behind = omega (arith, p.behind, at_most);
      inside = omega (arith, p.inside, same_length);
      is = above_is p.place (omega (arith, p.behind)) ∙ p.is;
    }

    long : length list' ≡ length index + length fresh
    long = same_length ∙ m.same_length

    step_index_all : (k : ℕ) → place_of fresh places left ≤ k → k < length index → HasFrom list' (place_of fresh places left + left) (get_or index k 0)
    step_index_all k le lt = elim (cases_lt k low) [
      | inl below ↦ record { place = k + left + 1; behind = omega arith; inside = omega (arith, long, inside); is = moved_is k le below ∙ m.below k below }
      | inr above ↦ kept (get_or index k 0) (m.of_index_all k (omega arith) lt)
    ]

    step_fresh_all : (j : ℕ) → left ≤ j → j < length fresh → HasFrom list' (place_of fresh places left + left) (length index + get_or fresh j 0)
    step_fresh_all j le lt = elim (cases_eq j left) [
      | inl same ↦ record { place = place_of fresh places left + left; behind = omega arith; inside = omega (arith, long, inside, at_most, m.low_inside); is = first_is ∙ ap (λ k. length index + get_or fresh k 0) (sym same) }
      | inr other ↦ kept (length index + get_or fresh j 0) (m.of_fresh_all j (omega arith) lt)
    ]

    pub merge_step : IsMerged cuts index fresh places (place_of fresh places left) left list'
    merge_step = record {
      same_length = long;
      low_inside = omega (arith, at_most, m.low_inside);
      left_inside = omega (arith, m.left_inside);
      below = λ k lt. below_is k (omega arith) ∙ m.below k (omega (arith, at_most));
      rising = step_rising;
      source = step_source;
      of_index_all = step_index_all;
      of_fresh_all = step_fresh_all;
      behind = λ j le lt. elim (cases_eq j left) [
        | inl same ↦ let e : place_of fresh places j ≡ place_of fresh places left = ap (place_of fresh places) same in omega (arith, e)
        | inr other ↦ omega (arith, m.behind j (omega arith) lt, at_most)
      ];
      before = λ j lt. places_rise j left lt inside;
    }

  -- all are merged
  module _ (low : ℕ) (list : List ℕ) (m : IsMerged cuts index fresh places low 0 list) where
    end_source : (i : ℕ) → i < length list → Source index fresh 0 0 (get_or list i 0)
    end_source i lt = elim (cases_lt i low) [
      | inl below ↦ of_index i (omega arith) (omega (arith, m.low_inside)) (m.below i below)
      | inr above ↦ elim (m.source i (omega arith) lt) [
        | of_index k lk kl x ↦ of_index k (omega arith) kl x
        | of_fresh f lf fl x ↦ of_fresh f (omega arith) fl x
      ]
    ]

    end_below : (i : ℕ) → i < length list → get_or list i 0 < length cuts
    end_below i lt = elim (end_source i lt) [
      | of_index k lk kl x ↦ omega (arith, x, index_below k kl, length_parts)
      | of_fresh f lf fl x ↦ omega (arith, x, fresh_below f fl, length_parts)
    ]

    end_rising : (i j : ℕ) → i < j → j < length list → IsBelow cuts (get_or list i 0) (get_or list j 0)
    end_rising i j lt within = elim (cases_lt i low) [
      | inr above ↦ m.rising i j (omega arith) lt within
      | inl below ↦ elim (cases_lt j low) [
        | inl both ↦ below_by cuts _ _ _ _ (m.below i below) (m.below j both) (index_index i j lt (omega (arith, m.low_inside)))
        | inr above ↦ elim (m.source j (omega arith) within) [
          | of_index k lk kl x ↦ below_by cuts _ _ _ _ (m.below i below) x (index_index i k (omega arith) kl)
          | of_fresh f lf fl x ↦ below_by cuts _ _ _ _ (m.below i below) x (index_fresh i f fl (omega (arith, m.behind f lf fl)))
        ]
      ]
    ]

    found_at : (i place : ℕ) → place < length list → get_or list place 0 ≡ i → Contains list i
    found_at i place lt e = (place, lt, get_or_default list place i 0 lt ∙ e)

    found_from : (i start : ℕ) → HasFrom list start i → Contains list i
    found_from i start p = found_at i p.place p.inside p.is

    end_every : (i : ℕ) → i < length cuts → Contains list i
    end_every i lt = elim (cases_lt i (length index)) [
      | inl known ↦
          let there : Contains index i = h.known.every i (omega (arith, h.known.same_length)) in
          let at : get_or index there.0 0 ≡ i = get_or_default index there.0 0 i there.1 ∙ there.2 in
          elim (cases_lt there.0 low) [
            | inl below ↦ found_at i there.0 (omega (arith, there.1, m.same_length)) (m.below there.0 below ∙ at)
            | inr above ↦ found_from i (low + 0) (subst (HasFrom list (low + 0)) at (m.of_index_all there.0 (omega arith) there.1))
          ]
      | inr later ↦
          let there : Contains fresh (i - length index) = h.later.every (i - length index) (omega (arith, h.later.same_length, length_parts)) in
          let at : get_or fresh there.0 0 ≡ i - length index = get_or_default fresh there.0 0 (i - length index) there.1 ∙ there.2 in
          let number : length index + get_or fresh there.0 0 ≡ i = omega (arith, at) in
          found_from i (low + 0) (subst (HasFrom list (low + 0)) number (m.of_fresh_all there.0 (omega arith) there.1))
    ]

    pub merge_end : IsCutIndex cuts list
    merge_end = record {
      same_length = m.same_length ∙ length_parts;
      below = λ k d lt. let e : get_or list k d ≡ get_or list k 0 = get_or_default list k d 0 lt in omega (arith, e, end_below k lt);
      rising = λ i j d lt within.
          let ei : get_or list i d ≡ get_or list i 0 = get_or_default list i d 0 (omega arith) in
          let ej : get_or list j d ≡ get_or list j 0 = get_or_default list j d 0 within in
          below_by cuts _ _ _ _ ei ej (end_rising i j lt within);
      every = end_every;
    }

-- ---- the steps of the merge, by what the code did

pub parts_of : (cuts : List CutKind) (index fresh places : List ℕ) → ArePending cuts index fresh places → length index + length fresh ≡ length cuts
parts_of cuts index fresh places h = length_parts cuts index fresh places h

pub merge_begins : (cuts : List CutKind) (list fresh places : List ℕ) (known left : ℕ) → ArePending cuts (take known list) fresh places → known + length fresh ≡ length list → left ≡ length fresh → IsMerged cuts (take known list) fresh places known left list
merge_begins cuts list fresh places known left h long e =
    let front : length (take known list) ≡ known = length-take-le known list (omega (arith, long)) in
    let start = merge_start cuts (take known list) fresh places h list (ap (λ n. take n list) front) (sym long ∙ ap (λ n. n + length fresh) (sym front)) in
    subst (λ n. IsMerged cuts (take known list) fresh places n left list) front (subst (λ n. IsMerged cuts (take known list) fresh places (length (take known list)) n list) (sym e) start)

-- the next number and its place
pub record HasRoom (cuts : List CutKind) (index places : List ℕ) (low left number place : ℕ) (list : List ℕ) : Type 0 where
  pub at_most : place ≤ low
  pub inside : low + left < length list
  pub number_inside : number < length places
  pub total : length index + number < length cuts

pub merged_room : (cuts : List CutKind) (index fresh places : List ℕ) → ArePending cuts index fresh places → (low left left' number place : ℕ) → (list : List ℕ) → left' + 1 ≡ left → number ≡ get_or fresh left' 0 → place ≡ get_or places number 0 → IsMerged cuts index fresh places low left list
    → HasRoom cuts index places low left' number place list
merged_room cuts index fresh places h low left left' number place list e en ep m =
    let inside : left' < length fresh = omega (arith, m.left_inside) in
    let below = fresh_below cuts index fresh places h left' inside in
    let same : get_or places number 0 ≡ place_of fresh places left' = ap (λ k. get_or places k 0) en in
    record {
      at_most = omega (arith, ep, same, m.before left' (omega arith));
      inside = omega (arith, m.same_length, m.low_inside);
      number_inside = omega (arith, en, below, h.placed);
      total = omega (arith, en, below, length_parts cuts index fresh places h);
    }

pub merged_one : (cuts : List CutKind) (index fresh places : List ℕ) → ArePending cuts index fresh places → (known low left left' number place : ℕ) (list list' : List ℕ) → known ≡ length index → left' + 1 ≡ left → number ≡ get_or fresh left' 0 → place ≡ get_or places number 0
    → IsMerged cuts index fresh places low left list → length list' ≡ length list → get_or list' (place + left') 0 ≡ known + number → ((k : ℕ) → k < place + left' → get_or list' k 0 ≡ get_or list k 0)
    → ((k : ℕ) → place ≤ k → k < low → get_or list' (k + left' + 1) 0 ≡ get_or list k 0) → ((k : ℕ) → low + left' + 1 ≤ k → get_or list' k 0 ≡ get_or list k 0) → IsMerged cuts index fresh places place left' list'
merged_one cuts index fresh places h known low left left' number place list list' ek e en ep m same first below moved above =
    let at : place ≡ place_of fresh places left' = ep ∙ ap (λ k. get_or places k 0) en in
    let before = subst (λ n. IsMerged cuts index fresh places low n list) (sym e) m in
    let first' : get_or list' (place_of fresh places left' + left') 0 ≡ length index + get_or fresh left' 0 = ap (λ k. get_or list' (k + left') 0) (sym at) ∙ first ∙ ap (λ k. k + number) ek ∙ ap (λ k. length index + k) en in
    subst (λ n. IsMerged cuts index fresh places n left' list') (sym at)
    (merge_step cuts index fresh places h low left' list list' before same first' (λ k lt. below k (omega (arith, at))) (λ k le lt. moved k (omega (arith, at)) lt) above)

pub merged_all : (cuts : List CutKind) (index fresh places : List ℕ) → ArePending cuts index fresh places → (low left : ℕ) (list : List ℕ) → left ≡ 0 → IsMerged cuts index fresh places low left list → IsCutIndex cuts list
merged_all cuts index fresh places h low left list e m = merge_end cuts index fresh places h low list (subst (λ n. IsMerged cuts index fresh places low n list) e m)

-- a stretch was moved up, and a number put before it
pub record IsMovedUp (old new : List ℕ) (place low left number : ℕ) : Type 0 where
  pub len : length new ≡ length old
  pub first : get_or new (place + left) 0 ≡ number
  pub below : (k : ℕ) → k < place + left → get_or new k 0 ≡ get_or old k 0
  pub moved : (k : ℕ) → place ≤ k → k < low → get_or new (k + left + 1) 0 ≡ get_or old k 0
  pub above : (k : ℕ) → low + left + 1 ≤ k → get_or new k 0 ≡ get_or old k 0

pub moved_up : (old mid new : List ℕ) (place low left number : ℕ) → place ≤ low → low + left < length old → length mid ≡ length old → CopiedTo old mid place (place + left + 1) (low - place) → SameBelow old mid (place + left + 1) → SameFrom old mid (place + left + 1 + (low - place))
    → new ≡ set mid (place + left) number → IsMovedUp old new place low left number
moved_up old mid new place low left number at_most inside len copied below above e = record {
  len = ap length e ∙ length-set mid (place + left) number ∙ len;
  first = ap (λ (xs : List ℕ). get_or xs (place + left) 0) e ∙ get_or-set_same mid (place + left) number 0 (omega (arith, len));
  below = λ k lt. ap (λ (xs : List ℕ). get_or xs k 0) e ∙ get_or-set_other mid (place + left) k number 0 (omega arith) ∙ below k 0 (omega arith);
  moved = λ k le lt.
      let back : place + (k + left + 1 - (place + left + 1)) ≡ k = omega arith in
      ap (λ (xs : List ℕ). get_or xs (k + left + 1) 0) e ∙ get_or-set_other mid (place + left) (k + left + 1) number 0 (omega arith) ∙ copied (k + left + 1) 0 (omega arith) (omega arith) ∙ ap (λ j. get_or old j 0) back;
  above = λ k le. ap (λ (xs : List ℕ). get_or xs k 0) e ∙ get_or-set_other mid (place + left) k number 0 (omega arith) ∙ above k 0 (omega arith);
}
