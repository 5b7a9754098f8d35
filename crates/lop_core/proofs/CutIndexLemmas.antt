-- The index of a list of cuts: where a cut stands, and where it would.
use Rattle.std.proofs.Common.{◌≡◌, ◌≢◌, ℕ, ◌+◌, ◌-◌, ◌<◌, ◌≤◌, ◌⊎◌, List, [], ◌∷◌, ◌++◌, length, get_or, inl, inr, arith, sym, ◌∙◌, refl, ap, subst, Bool, true, false, not, Decides}
use Rattle.std.specs.Prelude.{IsTrue, if◌then◌else◌, Result, Ok, Err, IfOk, IfErr, is_err}
use Rattle.std.proofs.lemmas.List.Quantifiers.{all_pairs_push}
use Rattle.std.proofs.lemmas.List.Folds.{list_any_at, list_any_none}
use Rattle.std.specs.declared.cmp.Ordering.{Ordering}
use Rattle.std.specs.declared.cmp.Ordering.TheVariants.{Less, Equal, Greater}
use Rattle.std.specs.Ordering.{ordering_reverse}
use Rattle.std.specs.List.{Contains, insert}
use Rattle.std.proofs.lemmas.Bool.{cases_lt, cases_eq}
use Rattle.std.proofs.lemmas.List.{length_push, get_or_append_left, get_or_push, get_or_default}
use Rattle.std.proofs.lemmas.List.Edits.{length-insert, get_or-insert_below, get_or-insert_at, get_or-insert_above}
use Rattle.std.proofs.lemmas.List.Elements.{All-cons, All-push, Contains-append_right}
use Rattle.std.proofs.lemmas.List.Sorted.{All-permutation, Contains-permutation, IsPermutation-insert}
use Rattle.lop_cuts.specs.declared.kind.CutKind.{CutKind}
use Rattle.lop_cuts.specs.declared.kind.CutKind.TheVariants.{Dicycle}
use Rattle.lop_cuts.specs.contracts.kind.CutKindOrd.TheImpl.Laws.{total-law}
use Rattle.lop_cuts.specs.contracts.kind.CutKindOrd.TheImpl.{ghosts as of_kind}
use Rattle.lop_cuts.proofs.EqLemmas.{kind_Decides, kind_tied}
use Rattle.lop_core.specs.Records.{cut_at, same_cut, is_new, AreDifferentCuts}
use Rattle.lop_cuts.specs.Kind.{IsCut}
use Rattle.lop_core.specs.CutIndex.{cut_order, IsCutIndex, IsNumberOf, IsGap}

-- the order that `cmp` answers
pub cut_order-is : (a b : CutKind) → of_kind.cmp a b ≡ cut_order a b
unfolding cut_order
cut_order-is a b = refl

pub cut_order-trans : (a b c : CutKind) → cut_order a b ≡ Less → cut_order b c ≡ Less → cut_order a c ≡ Less
unfolding cut_order
cut_order-trans a b c = total-law.trans a b c

cut_order-turned : (a b : CutKind) → cut_order a b ≡ ordering_reverse (cut_order b a)
unfolding cut_order
cut_order-turned a b = total-law.antisymm a b

cut_order-same : (a b : CutKind) → a ≡ b → cut_order a b ≡ Equal
unfolding cut_order
cut_order-same a b e = (kind_tied a b).1 e

-- `==` of cuts
pub same_cut-Decides : (a b : CutKind) → Decides (same_cut a b) (a ≡ b)
unfolding same_cut
same_cut-Decides a b = kind_Decides a b

-- the order turned
pub greater_turned : (a b : CutKind) → cut_order a b ≡ Greater → cut_order b a ≡ Less
greater_turned a b e = cut_order-turned b a ∙ ap ordering_reverse e

pub less_turned : (a b : CutKind) → cut_order a b ≡ Less → cut_order b a ≡ Greater
less_turned a b e = cut_order-turned b a ∙ ap ordering_reverse e

-- a cut that is less or greater isn't the same
pub less_differs : (a b : CutKind) → cut_order a b ≡ Less → a ≢ b
less_differs a b e same = let f : Less ≡ Equal = sym e ∙ cut_order-same a b same in cc

pub greater_differs : (a b : CutKind) → cut_order a b ≡ Greater → a ≢ b
greater_differs a b e same = let f : Greater ≡ Equal = sym e ∙ cut_order-same a b same in cc

-- what a look at the middle teaches
module _ (cuts : List CutKind) (index : List ℕ) (is : IsCutIndex cuts index) (cut : CutKind) (middle : ℕ) (inside : middle < length index) where
  pub less_below : cut_order (cut_at cuts (get_or index middle 0)) cut ≡ Less → (k : ℕ) → k < middle + 1 → cut_order (cut_at cuts (get_or index k 0)) cut ≡ Less
  less_below e k lt = elim (cases_eq k middle) [
    | inl same ↦ subst (λ (j : ℕ). cut_order (cut_at cuts (get_or index j 0)) cut ≡ Less) (sym same) e
    | inr other ↦ cut_order-trans _ _ _ (is.rising k middle 0 (omega arith) inside) e
  ]

  pub greater_above : cut_order (cut_at cuts (get_or index middle 0)) cut ≡ Greater → (k : ℕ) → middle ≤ k → k < length index → cut_order (cut_at cuts (get_or index k 0)) cut ≡ Greater
  greater_above e k le lt = elim (cases_eq k middle) [
    | inl same ↦ subst (λ (j : ℕ). cut_order (cut_at cuts (get_or index j 0)) cut ≡ Greater) (sym same) e
    | inr other ↦ less_turned _ _ (cut_order-trans _ _ _ (greater_turned _ _ e) (is.rising middle k 0 (omega arith) lt))
  ]

-- a cut that has a gap isn't in the list
pub gap_absent : (cuts : List CutKind) (index : List ℕ) (cut : CutKind) (place : ℕ) → IsCutIndex cuts index → IsGap cuts index cut place → (i : ℕ) → i < length cuts → cut_at cuts i ≢ cut
gap_absent cuts index cut place is gap i lt same =
    let there : Contains index i = is.every i lt in
    let at : get_or index there.0 0 ≡ i = at_any index i there.0 there.1 there.2 in
    elim (cases_lt there.0 place) [
      | inl below ↦ less_differs _ _ (gap.less there.0 below) (ap (cut_at cuts) at ∙ same)
      | inr above ↦ greater_differs _ _ (gap.greater there.0 (omega arith) there.1) (ap (cut_at cuts) at ∙ same)
    ]
  where
    at_any : (xs : List ℕ) (i k : ℕ) → k < length xs → get_or xs k i ≡ i → get_or xs k 0 ≡ i
    at_any xs i k lt e = grind (arith, get_or_default xs k 0 i lt)

-- the index after a cut came to the end of the list
module _ (cuts : List CutKind) (index : List ℕ) (cut : CutKind) (place : ℕ) (is : IsCutIndex cuts index) (gap : IsGap cuts index cut place) where
  old_cut : (i : ℕ) → i < length cuts → cut_at (cuts ++ cut ∷ []) i ≡ cut_at cuts i
  old_cut i lt = get_or_append_left cuts (cut ∷ []) (Dicycle (0 ∷ 0 ∷ 0 ∷ [])) i lt

  new_cut : cut_at (cuts ++ cut ∷ []) (length cuts) ≡ cut
  new_cut = get_or_push cuts cut (Dicycle (0 ∷ 0 ∷ 0 ∷ [])) (length cuts) refl

  old_order : (i j : ℕ) → i < length cuts → j < length cuts → cut_order (cut_at cuts i) (cut_at cuts j) ≡ Less → cut_order (cut_at (cuts ++ cut ∷ []) i) (cut_at (cuts ++ cut ∷ []) j) ≡ Less
  old_order i j li lj e = ap (λ (k : CutKind). cut_order k (cut_at (cuts ++ cut ∷ []) j)) (old_cut i li) ∙ ap (λ (k : CutKind). cut_order (cut_at cuts i) k) (old_cut j lj) ∙ e

  before_new : (i j : ℕ) → i < length cuts → j ≡ length cuts → cut_order (cut_at cuts i) cut ≡ Less → cut_order (cut_at (cuts ++ cut ∷ []) i) (cut_at (cuts ++ cut ∷ []) j) ≡ Less
  before_new i j li ej e =
      ap (λ (k : CutKind). cut_order k (cut_at (cuts ++ cut ∷ []) j)) (old_cut i li)
      ∙ ap (λ (k : CutKind). cut_order (cut_at cuts i) k) (ap (cut_at (cuts ++ cut ∷ [])) ej ∙ new_cut) ∙ e

  after_new : (i j : ℕ) → i ≡ length cuts → j < length cuts → cut_order (cut_at cuts j) cut ≡ Greater → cut_order (cut_at (cuts ++ cut ∷ []) i) (cut_at (cuts ++ cut ∷ []) j) ≡ Less
  after_new i j ei lj e =
      ap (λ (k : CutKind). cut_order k (cut_at (cuts ++ cut ∷ []) j)) (ap (cut_at (cuts ++ cut ∷ [])) ei ∙ new_cut)
      ∙ ap (λ (k : CutKind). cut_order cut k) (old_cut j lj) ∙ greater_turned (cut_at cuts j) cut e

  -- an entry of the longer index: one from before the place, the new one, or one from after it
  entry_cases : (k : ℕ) → k < length index + 1 → ((k < place) × (get_or (insert index place (length cuts)) k 0 ≡ get_or index k 0))
      ⊎ (((k ≡ place) × (get_or (insert index place (length cuts)) k 0 ≡ length cuts)) ⊎ ((place < k) × (get_or (insert index place (length cuts)) k 0 ≡ get_or index (k - 1) 0)))
  entry_cases k lt = elim (cases_lt k place) [
    | inl below ↦ inl (below, get_or-insert_below index place (length cuts) 0 k below gap.inside)
    | inr ge ↦ elim (cases_eq k place) [
      | inl same ↦ inr (inl (same, ap (λ (j : ℕ). get_or (insert index place (length cuts)) j 0) same ∙ get_or-insert_at index place (length cuts) 0 gap.inside))
      | inr other ↦
          let up : (k - 1) + 1 ≡ k = omega arith in
          inr (inr (omega arith, ap (λ (j : ℕ). get_or (insert index place (length cuts)) j 0) (sym up) ∙ get_or-insert_above index place (length cuts) 0 (k - 1) (omega arith) gap.inside))
    ]
  ]

  rising_entries : (i j : ℕ) → i < j → j < length index + 1
      → cut_order (cut_at (cuts ++ cut ∷ []) (get_or (insert index place (length cuts)) i 0)) (cut_at (cuts ++ cut ∷ []) (get_or (insert index place (length cuts)) j 0)) ≡ Less
  rising_entries i j lt within =
      let low : (k : ℕ) → k < length index → get_or index k 0 < length cuts = λ k l. is.below k 0 l in
      elim (entry_cases i (omega arith)) [
        | inl a ↦ elim (entry_cases j within) [
          | inl b ↦ rw (a.1, b.1) (old_order _ _ (low i (omega (arith, gap.inside))) (low j (omega (arith, gap.inside))) (is.rising i j 0 lt (omega (arith, gap.inside))))
          | inr (inl b) ↦ rw (a.1, b.1) (before_new _ _ (low i (omega (arith, gap.inside))) refl (gap.less i a.0))
          | inr (inr b) ↦ rw (a.1, b.1) (old_order _ _ (low i (omega (arith, gap.inside))) (low (j - 1) (omega arith)) (is.rising i (j - 1) 0 (omega arith) (omega arith)))
        ]
        | inr (inl a) ↦ elim (entry_cases j within) [
          | inl b ↦ absurd (omega arith)
          | inr (inl b) ↦ absurd (omega arith)
          | inr (inr b) ↦ rw (a.1, b.1) (after_new _ _ refl (low (j - 1) (omega arith)) (gap.greater (j - 1) (omega arith) (omega arith)))
        ]
        | inr (inr a) ↦ elim (entry_cases j within) [
          | inl b ↦ absurd (omega arith)
          | inr (inl b) ↦ absurd (omega arith)
          | inr (inr b) ↦ rw (a.1, b.1) (old_order _ _ (low (i - 1) (omega arith)) (low (j - 1) (omega arith)) (is.rising (i - 1) (j - 1) 0 (omega arith) (omega arith)))
        ]
      ]

  longer_length : length (insert index place (length cuts)) ≡ length index + 1
  longer_length = length-insert index place (length cuts) gap.inside

  pub IsCutIndex-longer : IsCutIndex (cuts ++ cut ∷ []) (insert index place (length cuts))
  IsCutIndex-longer =
      let more : length (cuts ++ cut ∷ []) ≡ length cuts + 1 = length_push cuts cut in
      let same : length index ≡ length cuts = is.same_length in
      record {
        same_length = longer_length ∙ ap (λ (k : ℕ). k + 1) same ∙ sym more;
        below = All-permutation (λ (i : ℕ). i < length (cuts ++ cut ∷ [])) (length cuts ∷ index) (insert index place (length cuts)) (IsPermutation-insert index place (length cuts))
            (All-cons (λ (i : ℕ). i < length (cuts ++ cut ∷ [])) (length cuts) index (omega arith) (λ k d l. let h = is.below k d l in omega arith));
        rising = λ i j d lt within.
            let l : j < length index + 1 = omega (arith, longer_length) in
            let at_i : get_or (insert index place (length cuts)) i d ≡ get_or (insert index place (length cuts)) i 0 = get_or_default (insert index place (length cuts)) i d 0 (omega arith) in
            let at_j : get_or (insert index place (length cuts)) j d ≡ get_or (insert index place (length cuts)) j 0 = get_or_default (insert index place (length cuts)) j d 0 within in
            rw (at_i, at_j) (rising_entries i j lt l);
        every = λ i lt. Contains-permutation (length cuts ∷ index) (insert index place (length cuts)) i (IsPermutation-insert index place (length cuts)) (every_entry i (omega arith));
      }
    where
      every_entry : (i : ℕ) → i < length cuts + 1 → Contains (length cuts ∷ index) i
      every_entry i lt = elim (cases_eq i (length cuts)) [
        | inl same ↦ (0, omega arith, sym same)
        | inr other ↦ Contains-append_right (length cuts ∷ []) index i (is.every i (omega arith))
      ]

  -- the cut at its new number
  pub number-longer : IsNumberOf (cuts ++ cut ∷ []) cut (length cuts)
  number-longer = let more : length (cuts ++ cut ∷ []) ≡ length cuts + 1 = length_push cuts cut in record { inside = omega arith; is_there = new_cut }

-- the same by what the code left
pub longer_is : (cuts : List CutKind) (index : List ℕ) (cut : CutKind) (place : ℕ) → IsCutIndex cuts index → IsGap cuts index cut place
    → (cuts' : List CutKind) (index' : List ℕ) (ok : Bool) (copy : CutKind) (number : ℕ) → cuts' ≡ cuts ++ copy ∷ [] → index' ≡ (if ok then insert index place number else index) → IsTrue ok → copy ≡ cut → number ≡ length cuts
    → IsCutIndex cuts' index'
longer_is cuts index cut place is gap cuts' index' true copy number ec ei ok ek en = rw (ec, ei, ek, en) (IsCutIndex-longer cuts index cut place is gap)
longer_is cuts index cut place is gap cuts' index' false copy number ec ei ok ek en = absurd (cc)

-- a cut with a number isn't new
pub number_not_new : (cuts : List CutKind) (cut : CutKind) (number : ℕ) → IsNumberOf cuts cut number → is_new cuts cut ≡ false
number_not_new cuts cut number is =
    ap not (list_any_at (λ c. same_cut c cut) cuts number (Dicycle (0 ∷ 0 ∷ 0 ∷ [])) is.inside ((same_cut-Decides (cut_at cuts number) cut).1 is.is_there))

-- a cut that is at no place is new
pub absent_new : (cuts : List CutKind) (cut : CutKind) → ((i : ℕ) → i < length cuts → cut_at cuts i ≢ cut) → is_new cuts cut ≡ true
absent_new cuts cut absent =
    ap not (list_any_none (λ c. same_cut c cut) cuts (λ k d lt. not_same (same_cut (get_or cuts k d) cut) (get_or cuts k d) refl (λ e. absent k lt (get_or_default cuts k (Dicycle (0 ∷ 0 ∷ 0 ∷ [])) d lt ∙ e))))
  where
    not_same : (b : Bool) (x : CutKind) → b ≡ same_cut x cut → (x ≢ cut) → same_cut x cut ≡ false
    not_same true x e apart = absurd (apart ((same_cut-Decides x cut).0 (sym e)))
    not_same false x e apart = sym e

-- and a new cut is at no place
pub new_absent : (cuts : List CutKind) (cut : CutKind) → is_new cuts cut ≡ true → (i : ℕ) → i < length cuts → cut_at cuts i ≢ cut
new_absent cuts cut new i lt same = let f : true ≡ false = sym new ∙ number_not_new cuts cut i (record { inside = lt; is_there = same }) in cc

pub gap_new : (cuts : List CutKind) (index : List ℕ) (cut : CutKind) (place : ℕ) → IsCutIndex cuts index → IsGap cuts index cut place → is_new cuts cut ≡ true
gap_new cuts index cut place is gap = absent_new cuts cut (gap_absent cuts index cut place is gap)

-- the answer of a search says whether the cut is new
pub missed : (cuts seen : List CutKind) (index places : List ℕ) (cut : CutKind) (r : Result ℕ ℕ) (b : Bool) → IsCutIndex cuts index → seen ≡ cuts → places ≡ index
    → IfOk r (λ number. IsNumberOf seen cut number) → IfErr r (λ place. IsGap seen places cut place) → b ≡ is_err r → b ≡ is_new cuts cut
missed cuts seen index places cut (Ok number) b is ec ei found gap e = e ∙ sym (number_not_new cuts cut number (rw ec at found))
missed cuts seen index places cut (Err place) b is ec ei found gap e = e ∙ sym (gap_new cuts index cut place is (rw (ec, ei) at gap))

-- one more cut, which isn't in the list
pub AreDifferentCuts-push : (cuts : List CutKind) (cut : CutKind) → AreDifferentCuts cuts → IsCut cut → ((i : ℕ) → i < length cuts → cut_at cuts i ≢ cut) → AreDifferentCuts (cuts ++ cut ∷ [])
AreDifferentCuts-push cuts cut is one absent = record {
  each = All-push IsCut cuts cut is.each one;
  different = all_pairs_push (λ a b. a ≢ b) cuts cut is.different (λ k d lt e. absent k lt (get_or_default cuts k (Dicycle (0 ∷ 0 ∷ 0 ∷ [])) d lt ∙ e));
}

-- the order of the cut that was read
pub seen_order : (cuts : List CutKind) (number : ℕ) (seen cut : CutKind) (o : Ordering) → number < length cuts → seen ≡ get_or cuts number seen → of_kind.cmp seen cut ≡ o → cut_order (cut_at cuts number) cut ≡ o
seen_order cuts number seen cut o lt is e =
    ap (λ (k : CutKind). cut_order k cut) (sym (is ∙ get_or_default cuts number seen (Dicycle (0 ∷ 0 ∷ 0 ∷ [])) lt)) ∙ sym (cut_order-is seen cut) ∙ e
