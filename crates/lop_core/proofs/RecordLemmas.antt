-- Records by the numbers of their cuts: what a new record leaves of the list of cuts and of the other records.
use Rattle.std.proofs.Common.{◌≡◌, ◌≢◌, ℕ, ◌+◌, ◌-◌, ◌<◌, ◌≤◌, List, [], ◌∷◌, ◌++◌, length, get_or, set, take, drop, arith, sym, ◌∙◌, refl, ap, subst, Bool, true, false, not, ◌||◌, ◌&&◌, leb, map, eqb, append_assoc, append-nil}
use Rattle.std.specs.Prelude.{if◌then◌else◌, filter, count_by, sum, All, AllPairs, IsPermutation}
use Rattle.std.specs.List.{list_any, sum_by, IsDistinct}
use Rattle.std.specs.List.Sorted.{IsNonDecreasingBy}
use Rattle.std.proofs.lemmas.Bool.Decides.{nat_tests}
use Rattle.std.proofs.lemmas.List.{length_push, get_or_append_left, get_or_default, get_or-map, get_or-take, map-append, map-set, length-map, length-append, take_all, take_more, drop_at, take-append-le, drop-append-le, length-drop, length-take-le, get_or-set_same}
use Rattle.std.proofs.lemmas.List.Elements.{All-head, All-tail, All-map, All-filter, All-push, All-weaker, All-set, filter_more}
use Rattle.std.proofs.lemmas.List.Folds.{list_any-append, list_any_none}
use Rattle.std.proofs.lemmas.List.Sums.{length-filter, sum_by-take-le, sum_by_push, sum-map}
use Rattle.std.proofs.lemmas.List.Sorted.{length_permutation, IsPermutation-map, All-permutation}
use Rattle.std.proofs.lemmas.Map.Keys.{IsDistinct-from_apart, apart_from_distinct, IsDistinct-IsPermutation}
use Rattle.lop_cuts.specs.declared.kind.CutKind.{CutKind}
use Rattle.lop_cuts.specs.declared.kind.CutKind.TheVariants.{Dicycle}
use Rattle.lop_cuts.specs.Lagrangian.{Term}
use Rattle.lop_leaf.specs.Record.{ScaledTerms, IsScaledTerms, IsMultiplier}
use Rattle.lop_core.specs.declared.records.NumberedTerm.{NumberedTerm}
use Rattle.lop_core.specs.declared.records.Span.{Span}
use Rattle.lop_core.specs.Records.{NodeRecord, RecordBook, AreDifferentCuts, IsRecordBook, IsNumbered, IsAdded, with_children, empty_record, record_at, number_at, cut_at, terms_of, same_cut, is_new, new_cuts, IsNodeRecord}
use Rattle.lop_core.specs.CutIndex.{IsNumberOf}
use Rattle.lop_core.specs.Kept.{record_of}
use Rattle.lop_core.proofs.CutIndexLemmas.{same_cut-Decides}

abbrev no_cut : CutKind
no_cut = Dicycle (0 ∷ 0 ∷ 0 ∷ [])

-- what holds of all images holds of all
pub all_unmapped : {X Y : Type 0} (P : Y → Type 0) (f : X → Y) (xs : List X) → All P (map f xs) → All (λ x. P (f x)) xs
all_unmapped P f xs h k d lt = subst P (get_or-map f xs k d (f d) lt) (h k (f d) (subst (λ n. k < n) (sym (length-map xs f)) lt))

-- two functions that agree on each element
pub map_agree : {X Y : Type 0} (f g : X → Y) (xs : List X) → All (λ x. f x ≡ g x) xs → map f xs ≡ map g xs
map_agree f g [] h = refl
map_agree f g (x ∷ xs) h = ap (λ y. y ∷ map f xs) (All-head (λ x. f x ≡ g x) x xs h) ∙ ap (λ ys. g x ∷ ys) (map_agree f g xs (All-tail (λ x. f x ≡ g x) x xs h))

-- more cuts at the end change no term
pub terms_of-longer : (cuts more : List CutKind) (terms : List NumberedTerm) → All (λ t. t.cut < length cuts) terms → terms_of (cuts ++ more) terms ≡ terms_of cuts terms
terms_of-longer cuts more terms listed =
    map_agree (λ t. record { cut = cut_at (cuts ++ more) t.cut; multiplier = t.multiplier }) (λ t. record { cut = cut_at cuts t.cut; multiplier = t.multiplier }) terms
    (λ k d lt. ap (λ (c : CutKind). record { cut = c; multiplier = (get_or terms k d).multiplier }) (get_or_append_left cuts more no_cut (get_or terms k d).cut (listed k d lt)))

-- more cuts at the end: each number is still in the list
pub listed_longer : (cuts more seen : List CutKind) (terms : List NumberedTerm) → seen ≡ cuts ++ more → All (λ t. t.cut < length cuts) terms → All (λ t. t.cut < length seen) terms
listed_longer cuts more seen terms e listed =
    let long : length seen ≡ length cuts + length more = ap length e ∙ length-append cuts more in
    All-weaker (λ (u : NumberedTerm). u.cut < length cuts) (λ (u : NumberedTerm). u.cut < length seen) (λ u l. omega arith) terms listed

-- the terms so far bring no more new cuts than all
new_count-le : (cuts : List CutKind) (terms : List Term) (i : ℕ) → length (new_cuts cuts (take i terms)) ≤ length (new_cuts cuts terms)
new_count-le cuts terms i =
    let one : length (new_cuts cuts (take i terms)) ≡ count_by (λ (u : Term). is_new cuts u.cut) (take i terms) =
    length-map (filter (λ (u : Term). is_new cuts u.cut) (take i terms)) (λ (u : Term). u.cut) ∙ length-filter (λ (u : Term). is_new cuts u.cut) (take i terms) in
    let all : length (new_cuts cuts terms) ≡ count_by (λ (u : Term). is_new cuts u.cut) terms =
    length-map (filter (λ (u : Term). is_new cuts u.cut) terms) (λ (u : Term). u.cut) ∙ length-filter (λ (u : Term). is_new cuts u.cut) terms in
    omega (arith, sum_by-take-le (λ (u : Term). if is_new cuts u.cut then 1 else 0) terms i)

-- ---- the terms in turn

module _ (cuts : List CutKind) (terms : List Term) (different : AllPairs (λ t u. t.cut ≢ u.cut) terms) (i : ℕ) (t : Term) (within : i < length terms) (is : t ≡ get_or terms i t) where
  -- the cut of a term isn't among those that came before it
  not_before : list_any (λ c. same_cut c t.cut) (new_cuts cuts (take i terms)) ≡ false
  not_before = list_any_none (λ c. same_cut c t.cut) (new_cuts cuts (take i terms))
      (All-map (λ (c : CutKind). same_cut c t.cut ≡ false) (λ (u : Term). u.cut) (filter (λ u. is_new cuts u.cut) (take i terms))
      (All-filter (λ (u : Term). is_new cuts u.cut) (λ (u : Term). same_cut u.cut t.cut ≡ false) (take i terms) earlier))
    where
      answer : (b : Bool) (a : CutKind) → b ≡ same_cut a t.cut → a ≢ t.cut → same_cut a t.cut ≡ false
      answer true a e apart = absurd (apart ((same_cut-Decides a t.cut).0 (sym e)))
      answer false a e apart = sym e

      earlier : All (λ (u : Term). same_cut u.cut t.cut ≡ false) (take i terms)
      earlier k d lt =
          let len : length (take i terms) ≡ i = length-take-le i terms (omega arith) in
          let before : k < i = omega arith in
          let same : get_or (take i terms) k d ≡ get_or terms k d = get_or-take i terms k d before in
          let here : get_or terms i d ≡ t = get_or_default terms i d t within ∙ sym is in
          answer (same_cut (get_or (take i terms) k d).cut t.cut) (get_or (take i terms) k d).cut refl
          (λ e. different k i d before within (ap (λ (u : Term). u.cut) (sym same) ∙ e ∙ ap (λ (u : Term). u.cut) (sym here)))

  -- so it is new to the list so far exactly where it was at first
  pub still_new : is_new (cuts ++ new_cuts cuts (take i terms)) t.cut ≡ is_new cuts t.cut
  still_new =
      ap not (list_any-append (λ c. same_cut c t.cut) cuts (new_cuts cuts (take i terms)) ∙ ap (λ b. list_any (λ c. same_cut c t.cut) cuts || b) not_before
      ∙ or_false (list_any (λ c. same_cut c t.cut) cuts))
    where
      or_false : (b : Bool) → (b || false) ≡ b
      or_false true = refl
      or_false false = refl

  -- one more term
  pub new_cuts_more : new_cuts cuts (take (i + 1) terms) ≡ new_cuts cuts (take i terms) ++ (if is_new cuts t.cut then t.cut ∷ [] else [])
  new_cuts_more =
      let here : get_or terms i t ≡ t = sym is in
      ap (λ ts. map (λ (u : Term). u.cut) ts) (filter_more (λ (u : Term). is_new cuts u.cut) terms i t within)
      ∙ map-append (λ (u : Term). u.cut) (filter (λ (u : Term). is_new cuts u.cut) (take i terms)) (if is_new cuts (get_or terms i t).cut then get_or terms i t ∷ [] else [])
      ∙ ap (λ cs. new_cuts cuts (take i terms) ++ cs) (ap (λ (u : Term). map (λ (v : Term). v.cut) (if is_new cuts u.cut then u ∷ [] else [])) here ∙ mapped (is_new cuts t.cut))
    where
      mapped : (b : Bool) → map (λ (v : Term). v.cut) (if b then t ∷ [] else []) ≡ (if b then t.cut ∷ [] else [])
      mapped true = refl
      mapped false = refl

  pub cuts_step : (seen seen' : List CutKind) → seen ≡ cuts ++ new_cuts cuts (take i terms) → seen' ≡ (if is_new seen t.cut then seen ++ t.cut ∷ [] else seen) → seen' ≡ cuts ++ new_cuts cuts (take (i + 1) terms)
  cuts_step seen seen' es e' =
      e' ∙ ap (λ b. if b then seen ++ t.cut ∷ [] else seen) (ap (λ cs. is_new cs t.cut) es ∙ still_new)
      ∙ joined (is_new cuts t.cut) ∙ ap (λ cs. cuts ++ cs) (sym new_cuts_more)
    where
      joined : (b : Bool) → (if b then seen ++ t.cut ∷ [] else seen) ≡ cuts ++ (new_cuts cuts (take i terms) ++ (if b then t.cut ∷ [] else []))
      joined true = ap (λ cs. cs ++ t.cut ∷ []) es ∙ append_assoc cuts (new_cuts cuts (take i terms)) (t.cut ∷ [])
      joined false = es ∙ ap (λ cs. cuts ++ cs) (sym (append-nil (new_cuts cuts (take i terms))))

  -- where the whole list has room, one more new cut has
  pub room_for_one : (seen : List CutKind) → seen ≡ cuts ++ new_cuts cuts (take i terms) → length cuts + length (new_cuts cuts terms) ≤ 65536 → is_new seen t.cut ≡ true → length seen < 65536
  room_for_one seen es room new =
      let first : is_new cuts t.cut ≡ true = sym still_new ∙ ap (λ cs. is_new cs t.cut) (sym es) ∙ new in
      let more : length (new_cuts cuts (take (i + 1) terms)) ≡ length (new_cuts cuts (take i terms)) + 1 =
      ap length (new_cuts_more ∙ ap (λ b. new_cuts cuts (take i terms) ++ (if b then t.cut ∷ [] else [])) first) ∙ length_push (new_cuts cuts (take i terms)) t.cut in
      let long : length seen ≡ length cuts + length (new_cuts cuts (take i terms)) = ap length es ∙ length-append cuts (new_cuts cuts (take i terms)) in
      let most = new_count-le cuts terms (i + 1) in
      omega (arith, most)

-- the list of cuts grows at its end
pub grown_cuts : (seen seen' : List CutKind) (cut : CutKind) → seen' ≡ (if is_new seen cut then seen ++ cut ∷ [] else seen) → (more : List CutKind) × (seen' ≡ seen ++ more)
grown_cuts seen seen' cut e = go (is_new seen cut) e where
  go : (b : Bool) → seen' ≡ (if b then seen ++ cut ∷ [] else seen) → (more : List CutKind) × (seen' ≡ seen ++ more)
  go true e = (cut ∷ [], e)
  go false e = ([], e ∙ sym (append-nil seen))

-- one more numbered term
pub terms_step : (seen seen' : List CutKind) (terms : List Term) (i : ℕ) (t : Term) (fresh fresh' : List NumberedTerm) (number : ℕ) → i < length terms → t ≡ get_or terms i t
    → seen' ≡ (if is_new seen t.cut then seen ++ t.cut ∷ [] else seen) → IsNumberOf seen' t.cut number → terms_of seen fresh ≡ take i terms → All (λ u. u.cut < length seen) fresh
    → fresh' ≡ fresh ++ record { cut = number; multiplier = t.multiplier } ∷ [] → (terms_of seen' fresh' ≡ take (i + 1) terms) × All (λ u. u.cut < length seen') fresh'
terms_step seen seen' terms i t fresh fresh' number within is grows at so_far listed e =
    let more = grown_cuts seen seen' t.cut grows in
    let long : length seen' ≡ length seen + length more.0 = ap length more.1 ∙ length-append seen more.0 in
    let old : terms_of seen' fresh ≡ terms_of seen fresh = ap (λ cs. terms_of cs fresh) more.1 ∙ terms_of-longer seen more.0 fresh listed in
    let new : NumberedTerm = record { cut = number; multiplier = t.multiplier } in
    let last : record { cut = cut_at seen' number; multiplier = t.multiplier } ≡ t = ap (λ (c : CutKind). record { cut = c; multiplier = t.multiplier }) at.is_there in (
      ap (terms_of seen') e
          ∙ map-append (λ (u : NumberedTerm). record { cut = cut_at seen' u.cut; multiplier = u.multiplier }) fresh (record { cut = number; multiplier = t.multiplier } ∷ [])
          ∙ ap (λ (ts : List Term). ts ++ record { cut = cut_at seen' number; multiplier = t.multiplier } ∷ []) (old ∙ so_far)
          ∙ ap (λ (u : Term). take i terms ++ u ∷ []) (last ∙ is) ∙ sym (take_more terms i t within),
      subst (λ (us : List NumberedTerm). All (λ u. u.cut < length seen') us) (sym e)
          (All-push (λ (u : NumberedTerm). u.cut < length seen') fresh (record { cut = number; multiplier = t.multiplier })
          (All-weaker (λ (u : NumberedTerm). u.cut < length seen) (λ (u : NumberedTerm). u.cut < length seen') (λ u l. omega arith) fresh listed) at.inside),
    )

-- ---- the order of the numbers

-- terms of different cuts have different numbers
numbers_differ : (cuts : List CutKind) (fresh : List NumberedTerm) → AllPairs (λ t u. t.cut ≢ u.cut) (terms_of cuts fresh) → IsDistinct eqb (map (λ (t : NumberedTerm). t.cut) fresh)
numbers_differ cuts fresh different = IsDistinct-from_apart eqb (map (λ (t : NumberedTerm). t.cut) fresh) (λ i j d lt within.
    let inside : j < length fresh = subst (λ n. j < n) (length-map fresh (λ (t : NumberedTerm). t.cut)) within in
    let e : NumberedTerm = record { cut = d; multiplier = 0 } in
    let look : NumberedTerm → Term = λ t. record { cut = cut_at cuts t.cut; multiplier = t.multiplier } in
    let at_i : get_or (map (λ (t : NumberedTerm). t.cut) fresh) i d ≡ (get_or fresh i e).cut = get_or-map (λ (t : NumberedTerm). t.cut) fresh i e d (omega arith) in
    let at_j : get_or (map (λ (t : NumberedTerm). t.cut) fresh) j d ≡ (get_or fresh j e).cut = get_or-map (λ (t : NumberedTerm). t.cut) fresh j e d inside in
    let long : length (terms_of cuts fresh) ≡ length fresh = length-map fresh look in
    let cut_i : get_or (terms_of cuts fresh) i (look e) ≡ look (get_or fresh i e) = get_or-map look fresh i e (look e) (omega arith) in
    let cut_j : get_or (terms_of cuts fresh) j (look e) ≡ look (get_or fresh j e) = get_or-map look fresh j e (look e) inside in
    let apart : (get_or fresh i e).cut ≢ (get_or fresh j e).cut = λ same.
    different i j (look e) lt (omega arith) (ap (λ (t : Term). t.cut) cut_i ∙ ap (cut_at cuts) same ∙ ap (λ (t : Term). t.cut) (sym cut_j)) in
    rw (at_i, at_j) (unequal _ _ apart))
  where
    unequal : (x y : ℕ) → x ≢ y → eqb x y ≡ false
    unequal x y h = grind (arith, nat_tests)

-- after the sort the numbers rise
pub rising_sorted : (cuts : List CutKind) (fresh sorted : List NumberedTerm) → AllPairs (λ t u. t.cut ≢ u.cut) (terms_of cuts fresh) → IsPermutation fresh sorted → IsNonDecreasingBy (λ (t : NumberedTerm). t.cut) sorted
    → AllPairs (λ t u. t.cut < u.cut) sorted
rising_sorted cuts fresh sorted different perm up i j d lt within =
    let keys : NumberedTerm → ℕ = λ t. t.cut in
    let distinct = IsDistinct-IsPermutation eqb (λ x y. eqb_flip x y) (map (λ (t : NumberedTerm). t.cut) fresh) (map (λ (t : NumberedTerm). t.cut) sorted)
    (IsPermutation-map (λ (t : NumberedTerm). t.cut) fresh sorted perm) (numbers_differ cuts fresh different) in
    let long : length (map (λ (t : NumberedTerm). t.cut) sorted) ≡ length sorted = length-map sorted (λ (t : NumberedTerm). t.cut) in
    let apart = apart_from_distinct eqb (map (λ (t : NumberedTerm). t.cut) sorted) i j d.cut distinct lt (omega arith) in
    let at_i : get_or (map (λ (t : NumberedTerm). t.cut) sorted) i d.cut ≡ (get_or sorted i d).cut = get_or-map (λ (t : NumberedTerm). t.cut) sorted i d d.cut (omega arith) in
    let at_j : get_or (map (λ (t : NumberedTerm). t.cut) sorted) j d.cut ≡ (get_or sorted j d).cut = get_or-map (λ (t : NumberedTerm). t.cut) sorted j d d.cut within in
    below (get_or sorted i d).cut (get_or sorted j d).cut (up i j d (omega arith) within) (rw (at_i, at_j) at apart)
  where
    eqb_flip : (x y : ℕ) → eqb x y ≡ eqb y x
    eqb_flip x y = grind (arith, nat_tests)

    below : (x y : ℕ) → x ≤ y → eqb x y ≡ false → x < y
    below x y l e = grind (arith, nat_tests)

-- ---- spans

-- more terms at the end of the room change no record
pub record_of-longer : (room more : List NumberedTerm) (s : Span) → s.first + s.count ≤ length room → record_of (room ++ more) s ≡ record_of room s
record_of-longer room more s within =
    let len : length (drop s.first room) ≡ length room - s.first = length-drop s.first room in
    ap (λ (ts : List NumberedTerm). record { scale = s.scale; terms = ts })
    (ap (take s.count) (drop-append-le s.first room more (omega arith)) ∙ take-append-le s.count (drop s.first room) more (omega arith))

pub records-longer : (room more : List NumberedTerm) (spans : List Span) → All (λ s. s.first + s.count ≤ length room) spans → map (record_of (room ++ more)) spans ≡ map (record_of room) spans
records-longer room more spans inside = map_agree (record_of (room ++ more)) (record_of room) spans (λ k d lt. record_of-longer room more (get_or spans k d) (inside k d lt))

-- the span at the end of the room
pub record_of-last : (room more : List NumberedTerm) (scale first count : ℕ) → first ≡ length room → count ≡ length more → record_of (room ++ more) (record { scale = scale; first = first; count = count }) ≡ record { scale = scale; terms = more }
record_of-last room more scale first count ef ec =
    ap (λ (ts : List NumberedTerm). record { scale = scale; terms = ts })
    (ap (take count) (drop_at room more first (sym ef)) ∙ take_all count more (omega arith))

-- a record of a shorter list of cuts is one of a longer list
pub IsNodeRecord-longer : (n m : ℕ) (r : NodeRecord) → n ≤ m → IsNodeRecord n r → IsNodeRecord m r
IsNodeRecord-longer n m r le is = record {
  positive = is.positive;
  within_limit = is.within_limit;
  bounded_count = is.bounded_count;
  rising = is.rising;
  listed = All-weaker (λ (t : NumberedTerm). t.cut < n) (λ (t : NumberedTerm). t.cut < m) (λ t l. omega arith) r.terms is.listed;
  multipliers = is.multipliers;
}

-- the term that was read, opened
pub read_term : (terms : List Term) (i : ℕ) (t seen : Term) → t ≡ seen → seen ≡ get_or terms i seen → i < length terms → t ≡ get_or terms i t
read_term terms i t seen e is within = e ∙ is ∙ get_or_default terms i seen t within

-- the records as they lie in their rooms
abbrev pub laid : List CutKind → List NumberedTerm → List Span → List ℕ → RecordBook
laid cuts room spans numbers = record {
  cuts = cuts;
  used = length room;
  records = map (record_at (map (record_of room) spans)) numbers;
  numbers = numbers;
  kept = map (record_of room) spans;
}

-- two more nodes with the number of one that is there
pub inherited_kept : (cuts : List CutKind) (room : List NumberedTerm) (spans : List Span) (numbers : List ℕ) (node number : ℕ) (one two : List ℕ)
    → IsRecordBook (laid cuts room spans numbers) → node < length numbers → number ≡ get_or numbers node number → one ≡ numbers ++ number ∷ [] → two ≡ one ++ number ∷ []
    → IsRecordBook (laid cuts room spans two)
inherited_kept cuts room spans numbers node number one two book within is e1 e2 =
    let kept : List NodeRecord = map (record_of room) spans in
    let own : number < length (map (record_of room) spans) = subst (λ (k : ℕ). k < length (map (record_of room) spans)) (sym is) (book.inside node number within) in
    let all : All (λ (k : ℕ). k < length (map (record_of room) spans)) ((numbers ++ number ∷ []) ++ number ∷ []) =
    All-push (λ (k : ℕ). k < length (map (record_of room) spans)) (numbers ++ number ∷ []) number (All-push (λ (k : ℕ). k < length (map (record_of room) spans)) numbers number book.inside own) own in
    let e : two ≡ (numbers ++ number ∷ []) ++ number ∷ [] = e2 ∙ ap (λ (xs : List ℕ). xs ++ number ∷ []) e1 in
    rw e (record {
      cuts = book.cuts;
      each = All-map (IsNodeRecord (length cuts)) (record_at (map (record_of room) spans)) ((numbers ++ number ∷ []) ++ number ∷ []) (λ k d lt. book.every _ empty_record (all k d lt));
      every = book.every;
      inside = all;
      by_number = refl;
      counted = book.counted;
    })

-- the book after it
pub inherited_book : (cuts : List CutKind) (room : List NumberedTerm) (spans : List Span) (numbers : List ℕ) (node number : ℕ) (one two : List ℕ)
    → node < length numbers → number ≡ get_or numbers node number → one ≡ numbers ++ number ∷ [] → two ≡ one ++ number ∷ []
    → laid cuts room spans two ≡ with_children (laid cuts room spans numbers) node
inherited_book cuts room spans numbers node number one two within is e1 e2 =
    let look : ℕ → NodeRecord = record_at (map (record_of room) spans) in
    let at : number ≡ number_at numbers node = is ∙ get_or_default numbers node number 0 within in
    let e : two ≡ numbers ++ number_at numbers node ∷ number_at numbers node ∷ [] =
    e2 ∙ ap (λ (xs : List ℕ). xs ++ number ∷ []) e1 ∙ append_assoc numbers (number ∷ []) (number ∷ []) ∙ ap (λ (k : ℕ). numbers ++ k ∷ k ∷ []) at in
    let own : record_at (map look numbers) node ≡ look (number_at numbers node) = get_or-map look numbers node 0 empty_record within in
    ap (laid cuts room spans) e
    ∙ ap (λ (rs : List NodeRecord). record {
      cuts = cuts;
      used = length room;
      records = rs;
      numbers = numbers ++ number_at numbers node ∷ number_at numbers node ∷ [];
      kept = map (record_of room) spans;
    }) (map-append look numbers (number_at numbers node ∷ number_at numbers node ∷ []) ∙ ap (λ (r : NodeRecord). map look numbers ++ r ∷ r ∷ []) (sym own))

-- a record that was added: the book and the spans after it
module _ (cuts more cuts' : List CutKind) (room fresh sorted : List NumberedTerm) (spans : List Span) (numbers : List ℕ) (node : ℕ) (shown : ScaledTerms) (scale first count next : ℕ)
    (book : IsRecordBook (laid cuts room spans numbers)) (inside : All (λ s. s.first + s.count ≤ length room) spans) (within : node < length numbers)
    (is : IsScaledTerms shown) (grows : cuts' ≡ cuts ++ more) (different : AreDifferentCuts cuts') (terms : terms_of cuts' fresh ≡ shown.terms) (listed : All (λ t. t.cut < length cuts') fresh)
    (perm : IsPermutation fresh sorted) (up : IsNonDecreasingBy (λ (t : NumberedTerm). t.cut) sorted) (es : scale ≡ shown.scale) (ef : first ≡ length room) (ec : count ≡ length shown.terms) (en : next ≡ length spans) where
  pub same_count : length sorted ≡ length shown.terms
  same_count = length_permutation fresh sorted perm ∙ sym (length-map fresh (λ (t : NumberedTerm). record { cut = cut_at cuts' t.cut; multiplier = t.multiplier })) ∙ ap length terms

  own_record : record_of (room ++ sorted) (record { scale = scale; first = first; count = count }) ≡ record { scale = shown.scale; terms = sorted }
  own_record = record_of-last room sorted scale first count ef (ec ∙ sym same_count) ∙ ap (λ (k : ℕ). record { scale = k; terms = sorted }) es

  -- the records by number
  new_kept : map (record_of (room ++ sorted)) (spans ++ record { scale = scale; first = first; count = count } ∷ []) ≡ map (record_of room) spans ++ record { scale = shown.scale; terms = sorted } ∷ []
  new_kept =
      map-append (record_of (room ++ sorted)) spans (record { scale = scale; first = first; count = count } ∷ [])
      ∙ ap (λ (r : NodeRecord). map (record_of (room ++ sorted)) spans ++ r ∷ []) own_record
      ∙ ap (λ (rs : List NodeRecord). rs ++ record { scale = shown.scale; terms = sorted } ∷ []) (records-longer room sorted spans inside)

  next_record : record_at (map (record_of room) spans ++ record { scale = shown.scale; terms = sorted } ∷ []) next ≡ record { scale = shown.scale; terms = sorted }
  next_record =
      ap (record_at (map (record_of room) spans ++ record { scale = shown.scale; terms = sorted } ∷ [])) (en ∙ sym (length-map spans (record_of room)))
      ∙ last (map (record_of room) spans) (record { scale = shown.scale; terms = sorted })
    where
      last : (rs : List NodeRecord) (r : NodeRecord) → record_at (rs ++ r ∷ []) (length rs) ≡ r
      last [] r = refl
      last (s ∷ rs) r = last rs r

  -- the records of the nodes
  new_records : map (record_at (map (record_of (room ++ sorted)) (spans ++ record { scale = scale; first = first; count = count } ∷ []))) (set numbers node next)
      ≡ set (map (record_at (map (record_of room) spans)) numbers) node (record { scale = shown.scale; terms = sorted })
  new_records =
      ap (λ (rs : List NodeRecord). map (record_at rs) (set numbers node next)) new_kept
      ∙ map-set (record_at (map (record_of room) spans ++ record { scale = shown.scale; terms = sorted } ∷ [])) numbers node next
      ∙ ap (λ (r : NodeRecord). set (map (record_at (map (record_of room) spans ++ record { scale = shown.scale; terms = sorted } ∷ [])) numbers) node r) next_record
      ∙ ap (λ (rs : List NodeRecord). set rs node (record { scale = shown.scale; terms = sorted }))
      (map_agree (record_at (map (record_of room) spans ++ record { scale = shown.scale; terms = sorted } ∷ [])) (record_at (map (record_of room) spans)) numbers
      (λ k d lt. get_or_append_left (map (record_of room) spans) (record { scale = shown.scale; terms = sorted } ∷ []) empty_record (get_or numbers k d) (book.inside k d lt)))

  rising : AllPairs (λ t u. t.cut < u.cut) sorted
  rising = rising_sorted cuts' fresh sorted (subst (λ (ts : List Term). AllPairs (λ t u. t.cut ≢ u.cut) ts) (sym terms) is.different) perm up

  own_is : IsNodeRecord (length cuts') (record { scale = shown.scale; terms = sorted })
  own_is = record {
    positive = is.positive;
    within_limit = is.within_limit;
    bounded_count = omega (arith, is.bounded_count, same_count);
    rising = rising;
    listed = All-permutation (λ (t : NumberedTerm). t.cut < length cuts') fresh sorted perm listed;
    multipliers = All-permutation (λ (t : NumberedTerm). IsMultiplier t.multiplier) fresh sorted perm
        (all_unmapped (λ (t : Term). IsMultiplier t.multiplier) (λ (t : NumberedTerm). record { cut = cut_at cuts' t.cut; multiplier = t.multiplier }) fresh
        (subst (λ (ts : List Term). All (λ t. IsMultiplier t.multiplier) ts) (sym terms) is.multipliers));
  }

  longer : (r : NodeRecord) → IsNodeRecord (length cuts) r → IsNodeRecord (length cuts') r
  longer r h = let long : length cuts' ≡ length cuts + length more = ap length grows ∙ length-append cuts more in IsNodeRecord-longer (length cuts) (length cuts') r (omega arith) h

  pub added_book : IsRecordBook (laid cuts' (room ++ sorted) (spans ++ record { scale = scale; first = first; count = count } ∷ []) (set numbers node next))
  added_book =
      let size : NodeRecord → ℕ = λ r. length r.terms in
      let all : length (map (record_of (room ++ sorted)) (spans ++ record { scale = scale; first = first; count = count } ∷ [])) ≡ length (map (record_of room) spans) + 1 =
      ap length new_kept ∙ length_push (map (record_of room) spans) (record { scale = shown.scale; terms = sorted }) in
      let old : length (map (record_of room) spans) ≡ length spans = length-map spans (record_of room) in
      let long : length (room ++ sorted) ≡ length room + length sorted = length-append room sorted in
      let sums : sum (map (λ (r : NodeRecord). length r.terms) (map (record_of (room ++ sorted)) (spans ++ record { scale = scale; first = first; count = count } ∷ []))) ≡ sum (map (λ (r : NodeRecord). length r.terms) (map (record_of room) spans)) + length sorted =
      ap (λ (rs : List NodeRecord). sum (map (λ (r : NodeRecord). length r.terms) rs)) new_kept ∙ sum_pushed (map (record_of room) spans) (record { scale = shown.scale; terms = sorted }) in
      record {
        cuts = different;
        each = subst (λ (rs : List NodeRecord). All (IsNodeRecord (length cuts')) rs) (sym new_records)
            (All-set (IsNodeRecord (length cuts')) (map (record_at (map (record_of room) spans)) numbers) node (record { scale = shown.scale; terms = sorted }) own_is
            (All-weaker (IsNodeRecord (length cuts)) (IsNodeRecord (length cuts')) longer (map (record_at (map (record_of room) spans)) numbers) book.each));
        every = subst (λ (rs : List NodeRecord). All (IsNodeRecord (length cuts')) rs) (sym new_kept)
            (All-push (IsNodeRecord (length cuts')) (map (record_of room) spans) (record { scale = shown.scale; terms = sorted })
            (All-weaker (IsNodeRecord (length cuts)) (IsNodeRecord (length cuts')) longer (map (record_of room) spans) book.every) own_is);
        inside = All-set (λ (k : ℕ). k < length (map (record_of (room ++ sorted)) (spans ++ record { scale = scale; first = first; count = count } ∷ []))) numbers node next (omega (arith, all, old))
            (All-weaker (λ (k : ℕ). k < length (map (record_of room) spans)) (λ (k : ℕ). k < length (map (record_of (room ++ sorted)) (spans ++ record { scale = scale; first = first; count = count } ∷ []))) (λ k l. omega (arith, all, l)) numbers book.inside);
        by_number = refl;
        counted = omega (arith, sums, long, book.counted);
      }
    where
      sum_pushed : (rs : List NodeRecord) (r : NodeRecord) → sum (map (λ (s : NodeRecord). length s.terms) (rs ++ r ∷ [])) ≡ sum (map (λ (s : NodeRecord). length s.terms) rs) + length r.terms
      sum_pushed rs r =
          let a : sum (map (λ (s : NodeRecord). length s.terms) (rs ++ r ∷ [])) ≡ sum_by (λ (s : NodeRecord). length s.terms) (rs ++ r ∷ []) = sum-map (λ (s : NodeRecord). length s.terms) (rs ++ r ∷ []) in
          let b : sum (map (λ (s : NodeRecord). length s.terms) rs) ≡ sum_by (λ (s : NodeRecord). length s.terms) rs = sum-map (λ (s : NodeRecord). length s.terms) rs in
          let c : sum_by (λ (s : NodeRecord). length s.terms) (rs ++ r ∷ []) ≡ sum_by (λ (s : NodeRecord). length s.terms) rs + length r.terms = sum_by_push (λ (s : NodeRecord). length s.terms) rs r in
          omega (arith, a, b, c)

  pub added_inside : All (λ s. s.first + s.count ≤ length (room ++ sorted)) (spans ++ record { scale = scale; first = first; count = count } ∷ [])
  added_inside =
      let long : length (room ++ sorted) ≡ length room + length sorted = length-append room sorted in
      let same : length sorted ≡ length shown.terms = same_count in
      All-push (λ (s : Span). s.first + s.count ≤ length (room ++ sorted)) spans (record { scale = scale; first = first; count = count })
      (All-weaker (λ (s : Span). s.first + s.count ≤ length room) (λ (s : Span). s.first + s.count ≤ length (room ++ sorted)) (λ s l. omega arith) spans inside) (omega arith)

  pub added : more ≡ new_cuts cuts shown.terms
      → IsAdded (laid cuts room spans numbers) node shown (laid cuts' (room ++ sorted) (spans ++ record { scale = scale; first = first; count = count } ∷ []) (set numbers node next))
  added em =
      let there : node < length (map (record_at (map (record_of room) spans)) numbers) = rw length-map within in
      let at : record_at (map (record_at (map (record_of (room ++ sorted)) (spans ++ record { scale = scale; first = first; count = count } ∷ []))) (set numbers node next)) node ≡ record { scale = shown.scale; terms = sorted } =
      ap (λ (rs : List NodeRecord). record_at rs node) new_records ∙ get_or-set_same (map (record_at (map (record_of room) spans)) numbers) node (record { scale = shown.scale; terms = sorted }) empty_record there in
      let perm' = IsPermutation-map (λ (t : NumberedTerm). record { cut = cut_at cuts' t.cut; multiplier = t.multiplier }) fresh sorted perm in
      record {
        cuts = grows ∙ ap (λ (cs : List CutKind). cuts ++ cs) em;
        used = length-append room sorted ∙ ap (λ k. length room + k) same_count;
        own = subst (IsNumbered cuts' shown) (sym at) (record { scale = refl; terms = subst (λ (ts : List Term). IsPermutation ts (terms_of cuts' sorted)) terms perm'; rising = rising });
        others = new_records ∙ ap (λ (r : NodeRecord). set (map (record_at (map (record_of room) spans)) numbers) node r) (sym at);
        numbers = ap (set numbers node) (en ∙ sym (length-map spans (record_of room)));
        kept = new_kept ∙ ap (λ (r : NodeRecord). map (record_of room) spans ++ r ∷ []) (sym at);
      }

-- a cut that is read after those before it differs from them
pub read_new : (cuts : List CutKind) (terms : List NumberedTerm) (i : ℕ) (e : NumberedTerm) (cut : CutKind) (old : List Term) → AreDifferentCuts cuts → AllPairs (λ t u. t.cut < u.cut) terms
    → All (λ t. t.cut < length cuts) terms → i < length terms → cut ≡ cut_at cuts (get_or terms i e).cut → old ≡ terms_of cuts (take i terms) → All (λ u. u.cut ≢ cut) old
read_new cuts terms i e cut old different rising listed within ec eo k d lt same =
    let t : NumberedTerm = get_or terms i e in
    let look : NumberedTerm → Term = λ u. record { cut = cut_at cuts u.cut; multiplier = u.multiplier } in
    let len : length (take i terms) ≡ i = length-take-le i terms (omega arith) in
    let long : length old ≡ length (take i terms) = ap length eo ∙ length-map (take i terms) (λ (u : NumberedTerm). record { cut = cut_at cuts u.cut; multiplier = u.multiplier }) in
    let before : k < i = omega arith in
    let here : get_or terms i t ≡ t = get_or_default terms i t e within in
    let at : get_or old k d ≡ record { cut = cut_at cuts (get_or terms k t).cut; multiplier = (get_or terms k t).multiplier } =
    ap (λ (us : List Term). get_or us k d) eo ∙ get_or-map (λ (u : NumberedTerm). record { cut = cut_at cuts u.cut; multiplier = u.multiplier }) (take i terms) k t d (omega arith)
    ∙ ap (λ (u : NumberedTerm). record { cut = cut_at cuts u.cut; multiplier = u.multiplier }) (get_or-take i terms k t before) in
    let less : (get_or terms k t).cut < t.cut = subst (λ (u : NumberedTerm). (get_or terms k t).cut < u.cut) here (rising k i t before within) in
    let inside : t.cut < length cuts = subst (λ (u : NumberedTerm). u.cut < length cuts) here (listed i t within) in
    different.different (get_or terms k t).cut t.cut no_cut less inside (ap (λ (u : Term). u.cut) (sym at) ∙ same ∙ ec)

-- what finds room fits the room of terms
pub fits_room : (k used room : ℕ) (b : Bool) → (eqb k 0 || (leb (used + k) room && b)) ≡ true → used ≤ room → used + k ≤ room
fits_room k used room b e le = grind (arith, nat_tests)

-- the span of a node's number
pub span_read : (room : List NumberedTerm) (spans : List Span) (numbers : List ℕ) (node number : ℕ) (span : Span) → All (λ k. k < length (map (record_of room) spans)) numbers → node < length numbers
    → number ≡ get_or numbers node number → span ≡ get_or spans number span → record_of room span ≡ record_at (map (record_at (map (record_of room) spans)) numbers) node
span_read room spans numbers node number span inside within en is =
    let at : number ≡ number_at numbers node = en ∙ get_or_default numbers node number 0 within in
    let low : number < length (map (record_of room) spans) = subst (λ (k : ℕ). k < length (map (record_of room) spans)) (sym en) (inside node number within) in
    let old : length (map (record_of room) spans) ≡ length spans = length-map spans (record_of room) in
    let own : record_at (map (record_of room) spans) number ≡ record_of room span = get_or-map (record_of room) spans number span empty_record (omega arith) ∙ ap (record_of room) (sym is) in
    sym own ∙ ap (record_at (map (record_of room) spans)) at ∙ sym (get_or-map (record_at (map (record_of room) spans)) numbers node 0 empty_record within)

-- the record of a node's span
pub span_record : (n : ℕ) (room : List NumberedTerm) (records : List NodeRecord) (node : ℕ) (span : Span) → All (IsNodeRecord n) records → node < length records → record_of room span ≡ record_at records node → IsNodeRecord n (record_of room span)
span_record n room records node span each within is = subst (IsNodeRecord n) (sym is) (each node empty_record within)

-- the part of the room that a span names
pub span_part : (P : List NumberedTerm → Type 0) (room seen : List NumberedTerm) (s : Span) → seen ≡ room → P (record_of room s).terms → P (take (s.first + s.count - s.first) (drop s.first seen))
span_part P room seen s e h =
    let n : s.first + s.count - s.first ≡ s.count = omega arith in
    subst (λ (k : ℕ). P (take k (drop s.first seen))) (sym n) (subst (λ (ts : List NumberedTerm). P (take s.count (drop s.first ts))) (sym e) h)
