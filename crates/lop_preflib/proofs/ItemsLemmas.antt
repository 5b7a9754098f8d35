-- The items of an order, one by one.
use Rattle.std.proofs.Common.{◌≡◌, ◌⊎◌, ℕ, ◌+◌, ◌-◌, ◌<◌, ◌≤◌, ◌==◌, Bool, true, false, not, ◌||◌, cond, List, [], ◌∷◌, ◌++◌, length, take, drop, map, get_or, set, replicate, None, Some, inl, inr, refl, subst, sym, ◌∙◌, ap, arith, get_or-set_same, get_or-set_other}
use Rattle.std.specs.List.{count_by, list_any, before_first, after_first}
use Rattle.std.proofs.lemmas.List.{drop_more, take_all, length-drop, length_push, map_more, get_or-replicate, length-set}
use Rattle.std.proofs.lemmas.List.Folds.{list_any_more}
use Rattle.std.proofs.lemmas.List.Sums.{sum_by-set, count_by-le-length}
use Rattle.std.proofs.lemmas.List.Splits.{slice_split_first, slice_split_none}
use Rattle.std.proofs.lemmas.Bool.{cases_eq}
use Rattle.std.proofs.lemmas.Bool.Decides.{nat_tests}
use Rattle.lop_desk.specs.Number.{digits_value}
use Rattle.lop_preflib.specs.Text.{trim, is_number_to}
use Rattle.lop_preflib.specs.Line.{is_comma, pieces_in, object_of}
use Rattle.lop_preflib.specs.Refusal.{stood_before, item_refusal, items_refusal}
use Rattle.lop_preflib.specs.declared.refusal.PrefRefusal.{PrefRefusal}
use Rattle.lop_preflib.specs.declared.refusal.PrefRefusal.TheVariants.{BadAlternative, Repeated}
use Rattle.lop_preflib.proofs.TextLemmas.{within_any, none_any}
use Rattle.lop_preflib.proofs.FirstLemmas.{first_below-none, first_below-at}

-- a piece before a comma
pub pieces_in-more : (text : List ℕ) → list_any is_comma text ≡ true → pieces_in text ≡ trim (before_first is_comma text) ∷ pieces_in (after_first is_comma text)
pieces_in-more text some = ap (map trim) (slice_split_first is_comma text 0 (within_any is_comma text some))

-- the last piece
pub pieces_in-last : (text : List ℕ) → list_any is_comma text ≡ false → pieces_in text ≡ trim text ∷ []
pieces_in-last text none = ap (map trim) (slice_split_none is_comma text (none_any is_comma text none))

-- the first items are read: they are good, the objects are theirs, which numbers stood is noted, and so many do
pub record AreRead (n line : ℕ) (items others : List (List ℕ)) (ranked : List ℕ) (seen : List Bool) : Type 0 where
  pub present : length ranked ≤ length items
  pub left : others ≡ drop (length ranked) items
  pub objects : ranked ≡ map object_of (take (length ranked) items)
  pub good : (k : ℕ) → k < length ranked → item_refusal n line items k ≡ None
  pub room : length seen ≡ 513
  pub noted : (v : ℕ) → v < 513 → get_or seen v false ≡ stood_before (take (length ranked) items) v
  pub all_noted : count_by (λ (t : Bool). t) seen ≡ length ranked

pub are_read-none : (n line : ℕ) (items : List (List ℕ)) (ranked : List ℕ) → ranked ≡ [] → AreRead n line items items ranked (replicate 513 false)
are_read-none n line items [] none = record {
  present = omega arith;
  left = refl;
  objects = refl;
  good = λ k low. absurd (omega (arith, low));
  room = refl;
  noted = λ v small. get_or-replicate 513 v false false small;
  all_noted = refl;
}
are_read-none n line items (r ∷ ranked) none = absurd (cc none)

pub items_refusal-none : (n line : ℕ) (items : List (List ℕ)) → ((k : ℕ) → k < length items → item_refusal n line items k ≡ None) → items_refusal n line items ≡ None
items_refusal-none n line items good = first_below-none (item_refusal n line items) (length items) good

or_last : (a b d : Bool) → d ≡ b → (a || d) ≡ (a || b)
or_last a b d e = ap (λ (t : Bool). a || t) e

or_true : (a : Bool) → (a || true) ≡ true
or_true true = refl
or_true false = refl

or_false : (a : Bool) → (a || false) ≡ a
or_false true = refl
or_false false = refl

module _ (n line : ℕ) (items others left : List (List ℕ)) (ranked : List ℕ) (seen : List Bool) (item : List ℕ) (so_far : AreRead n line items left ranked seen) (next : left ≡ item ∷ others) where
  left_is : item ∷ others ≡ drop (length ranked) items
  left_is = sym next ∙ so_far.left

  more : length ranked < length items
  more = omega (arith, ap length left_is, length-drop (length ranked) items)

  here : (get_or items (length ranked) [] ≡ item) × (drop (length ranked + 1) items ≡ others)
  here = let e = left_is ∙ drop_more items (length ranked) [] more in (cc, cc)

  refused : (refusal : PrefRefusal) → item_refusal n line items (length ranked) ≡ Some refusal → items_refusal n line items ≡ Some refusal
  refused refusal found = first_below-at (item_refusal n line items) (length items) (length ranked) refusal more so_far.good found

  -- what the tests say of this item
  tested : (good stood : Bool) → is_number_to n item ≡ good → stood_before (take (length ranked) items) (digits_value item) ≡ stood → item_refusal n line items (length ranked) ≡ cond (not good) (Some (BadAlternative line)) (cond stood (Some (Repeated line)) None)
  tested good stood e f =
      ap (λ (w : List ℕ). cond (not (is_number_to n w)) (Some (BadAlternative line)) (cond (stood_before (take (length ranked) items) (digits_value w)) (Some (Repeated line)) None)) here.0
      ∙ ap (λ (t : Bool). cond (not t) (Some (BadAlternative line)) (cond (stood_before (take (length ranked) items) (digits_value item)) (Some (Repeated line)) None)) e
      ∙ ap (λ (t : Bool). cond (not good) (Some (BadAlternative line)) (cond t (Some (Repeated line)) None)) f

  -- an item that is no number of an alternative
  pub items_refusal-bad : is_number_to n item ≡ false → items_refusal n line items ≡ Some (BadAlternative line)
  items_refusal-bad bad = refused (BadAlternative line) (tested false (stood_before (take (length ranked) items) (digits_value item)) bad refl)

  module _ (value : ℕ) (number : is_number_to n item ≡ true) (value_is : value ≡ digits_value item) (small : value < 513) where
    stood : stood_before (take (length ranked) items) (digits_value item) ≡ get_or seen value false
    stood = ap (stood_before (take (length ranked) items)) (sym value_is) ∙ sym (so_far.noted value small)

    -- a number that stood before
    pub items_refusal-repeated : get_or seen value false ≡ true → items_refusal n line items ≡ Some (Repeated line)
    items_refusal-repeated stood_there = refused (Repeated line) (tested true true number (stood ∙ stood_there))

    noted_more : (v : ℕ) → v < 513 → (v ≡ value) ⊎ (v ≡ value → ⊥) → get_or (set seen value true) v false ≡ (stood_before (take (length ranked) items) v || value == v)
    noted_more v low (inl same) =
        let within : value < length seen = omega (arith, small, so_far.room) in
        let here_is : (value == v) ≡ true = grind (arith, nat_tests) in
        ap (λ (i : ℕ). get_or (set seen value true) i false) same ∙ get_or-set_same seen value true false within ∙ sym (or_last (stood_before (take (length ranked) items) v) true (value == v) here_is ∙ or_true (stood_before (take (length ranked) items) v))
    noted_more v low (inr other) =
        let not_here : (value == v) ≡ false = grind (arith, nat_tests) in
        get_or-set_other seen value v true false other ∙ so_far.noted v low ∙ sym (or_last (stood_before (take (length ranked) items) v) false (value == v) not_here ∙ or_false (stood_before (take (length ranked) items) v))

    are_read-more : (longer : List ℕ) → longer ≡ ranked ++ (value - 1) ∷ [] → get_or seen value false ≡ false → AreRead n line items others longer (set seen value true)
    are_read-more longer is fresh =
        let k = length ranked in
        let long : length longer ≡ k + 1 = ap length is ∙ length_push ranked (value - 1) in
        let good_here : item_refusal n line items k ≡ None = tested true false number (stood ∙ fresh) in
        record {
          present = omega (arith, more, long);
          left = rw long (sym here.1);
          objects = rw long (is ∙ ap (λ (l : List ℕ). l ++ (value - 1) ∷ []) so_far.objects ∙ ap (λ (v : ℕ). map object_of (take k items) ++ v ∷ []) (ap (λ (v : ℕ). v - 1) value_is ∙ ap object_of (sym here.0)) ∙ sym (map_more object_of items k [] more));
          good = λ j low. elim (cases_eq j k) [ inl same ↦ subst (λ (i : ℕ). item_refusal n line items i ≡ None) (sym same) good_here | inr other ↦ so_far.good j (omega (arith, low, long, other)) ];
          room = length-set seen value true ∙ so_far.room;
          all_noted = omega (arith, sum_by-set (λ (t : Bool). cond t 1 0) seen value true false (omega (arith, small, so_far.room)), ap {B = ℕ} (λ (t : Bool). cond t 1 0) fresh, so_far.all_noted, long);
          noted = λ v low. rw (long, list_any_more (λ x. digits_value x == v) items k [] more, here.0, ← value_is) (noted_more v low (cases_eq v value));
        }

    -- no more numbers can stand than are noted
    pub few_read : get_or seen value false ≡ false → length ranked + 1 ≤ 513
    few_read fresh =
        omega (arith, sum_by-set (λ (t : Bool). cond t 1 0) seen value true false (omega (arith, small, so_far.room)), ap {B = ℕ} (λ (t : Bool). cond t 1 0) fresh, so_far.all_noted, length-set seen value true, so_far.room, count_by-le-length (λ (t : Bool). t) (set seen value true))

    -- one item more
    pub are_read-noted : (longer : List ℕ) (after : List Bool) → longer ≡ ranked ++ (value - 1) ∷ [] → after ≡ set seen value true → get_or seen value false ≡ false → AreRead n line items others longer after
    are_read-noted longer after is noted fresh = subst (λ (s : List Bool). AreRead n line items others longer s) (sym noted) (are_read-more longer is fresh)

-- all items are read
module _ (n line : ℕ) (items left : List (List ℕ)) (ranked : List ℕ) (seen : List Bool) (so_far : AreRead n line items left ranked seen) (none : left ≡ []) where
  all_read : length ranked ≡ length items
  all_read = omega (arith, so_far.present, ap length none, ap length so_far.left, length-drop (length ranked) items)

  pub objects-all : ranked ≡ map object_of items
  objects-all = so_far.objects ∙ ap (map object_of) (take_all (length ranked) items (omega (arith, all_read)))

  pub items_refusal-all : items_refusal n line items ≡ None
  items_refusal-all = items_refusal-none n line items (λ k low. so_far.good k (omega (arith, low, all_read)))
