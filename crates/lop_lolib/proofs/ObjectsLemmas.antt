-- The objects of an order, word by word.
use Rattle.std.proofs.Common.{◌≡◌, ◌≢◌, ℕ, ◌+◌, ◌-◌, ◌<◌, ◌≤◌, min, Bool, true, false, not, ◌||◌, ◌&&◌, ◌==◌, cond, nat_lt, nat_le, List, [], ◌∷◌, ◌++◌, length, take, drop, map, get_or, ℤ, pos, negsuc, Result, Ok, Err, refl, sym, ◌∙◌, ap, subst, inl, inr, arith}
use Rattle.std.specs.List.{range_with_len, list_any, Contains}
use Rattle.std.specs.Ordering.{int_eq}
use Rattle.std.proofs.lemmas.List.{drop_more, take_more, take_all, length-drop, length-take, length_push, map-append, get_or-take, get_or-map, length-map, ext_get_or, get_or_default}
use Rattle.std.proofs.lemmas.List.FromFn.{length-range_with_len, get_or-range_with_len}
use Rattle.std.proofs.lemmas.List.Folds.{list_any_none, list_any_at}
use Rattle.std.proofs.lemmas.List.Sums.{prefix_len_is, position_or_len_is}
use Rattle.std.proofs.lemmas.Bool.{cases_lt}
use Rattle.std.proofs.lemmas.Bool.Decides.{nat_tests, Decides-int_eq}
use Rattle.lop_desk.specs.Number.{whole_value}
use Rattle.lop_model.specs.Order.{IsOrder}
use Rattle.lop_model.specs.OrderFault.{IsOrderBefore}
use Rattle.lop_lolib.specs.Words.{is_bounded_whole}
use Rattle.lop_lolib.specs.OrderReading.{is_object, object_of, number_at, is_misplaced, first_misplaced, place_refusal, objects_reading, number_count, numbers_reading}
use Rattle.lop_lolib.specs.ClampedObject.{clamped_object}
use Rattle.lop_lolib.specs.declared.order.OrderRefusal.{OrderRefusal}
use Rattle.lop_lolib.specs.declared.order.OrderRefusal.TheVariants.{BadWord, Length, OutOfRange, Repeated}

abbrev object_in : List ℕ → ℕ
object_in word = clamped_object (whole_value word)

-- the first words are so many numbers, of which the first n at most are kept, and the other words are left
pub record AreFirstObjects (n : ℕ) (words others : List (List ℕ)) (count : ℕ) (objects : List ℕ) : Type 0 where
  pub present : count ≤ length words
  pub numbers : (k : ℕ) → k < count → is_bounded_whole (get_or words k []) ≡ true
  pub left : others ≡ drop count words
  pub kept : objects ≡ map object_in (take (length objects) words)
  pub many : length objects ≡ min count n

pub first_objects-none : (n : ℕ) (words : List (List ℕ)) → AreFirstObjects n words words 0 []
first_objects-none n words = record { present = omega arith; numbers = λ k below. absurd (omega arith); left = refl; kept = refl; many = omega arith }

abbrev numbers_with : ℕ → List (List ℕ) → Bool → Bool → Result (List ℕ) OrderRefusal
numbers_with n words bad whole = cond bad (Err (BadWord (number_count words))) (cond whole (objects_reading n (map whole_value words)) (Err (Length (length words))))

is_less : (a b : ℕ) → a < b → nat_lt a b ≡ true
is_less a b less = grind (arith, nat_tests)

is_not_less : (a b : ℕ) → b ≤ a → nat_lt a b ≡ false
is_not_less a b other = grind (arith, nat_tests)

is_other : (a b : ℕ) → a ≢ b → (a == b) ≡ false
is_other a b other = grind (arith, nat_tests)

is_same : (a b : ℕ) → a ≡ b → (a == b) ≡ true
is_same a b same = grind (arith, nat_tests)

module _ (n : ℕ) (words left others : List (List ℕ)) (count : ℕ) (objects : List ℕ) (word : List ℕ) (so_far : AreFirstObjects n words left count objects) (next : left ≡ word ∷ others) where
  left_is : word ∷ others ≡ drop count words
  left_is = sym next ∙ so_far.left

  pub first_objects-further : count < length words
  first_objects-further = omega (arith, ap length left_is, length-drop count words)

  here : (get_or words count [] ≡ word) × (drop (count + 1) words ≡ others)
  here = let e = left_is ∙ drop_more words count [] first_objects-further in (cc, cc)

  numbers_more : is_bounded_whole word ≡ true → (k : ℕ) → k < count + 1 → is_bounded_whole (get_or words k []) ≡ true
  numbers_more number k below =
      elim (cases_lt k count) [ inl before ↦ so_far.numbers k before | inr last ↦ let P : ℕ → Type 0 = λ i. is_bounded_whole (get_or words i []) ≡ true in subst P (omega arith) (ap is_bounded_whole here.0 ∙ number) ]

  -- one object more
  pub first_objects-more : (object : ℕ) (longer : List ℕ) → count < n → longer ≡ objects ++ object ∷ [] → is_bounded_whole word ≡ true → object ≡ object_in word → AreFirstObjects n words others (count + 1) longer
  first_objects-more object longer below is number object_is =
      let m = length objects in
      let all : m ≡ count = omega (arith, so_far.many) in
      let long : length longer ≡ m + 1 = ap length is ∙ length_push objects object in
      let inside : m < length words = omega (arith, first_objects-further) in
      let took = take_more words m [] inside in
      let at : get_or words m [] ≡ word = ap (λ (k : ℕ). get_or words k []) all ∙ here.0 in
      record {
        present = omega (arith, first_objects-further);
        numbers = numbers_more number;
        left = sym here.1;
        kept = rw long (is ∙ ap (λ (l : List ℕ). l ++ object ∷ []) so_far.kept ∙ ap (λ (v : ℕ). map object_in (take m words) ++ v ∷ []) (object_is ∙ ap object_in (sym at)) ∙ sym (ap (map object_in) took ∙ map-append object_in (take m words) (get_or words m [] ∷ [])));
        many = omega (arith, long, so_far.many);
      }

  -- a number behind the n-th
  pub first_objects-over : n ≤ count → is_bounded_whole word ≡ true → AreFirstObjects n words others (count + 1) objects
  first_objects-over full number =
      record { present = omega (arith, first_objects-further); numbers = numbers_more number; left = sym here.1; kept = so_far.kept; many = omega (arith, so_far.many) }

  -- a word that is no number
  pub numbers_reading-bad : is_bounded_whole word ≡ false → numbers_reading n words ≡ Err (BadWord count)
  numbers_reading-bad bad =
      let counted : number_count words ≡ count = prefix_len_is is_bounded_whole words count [] so_far.present so_far.numbers (λ _. ap is_bounded_whole here.0 ∙ bad) in
      let test : nat_lt (number_count words) (length words) ≡ true = is_less _ _ (omega (arith, counted, first_objects-further)) in
      ap (λ (t : Bool). numbers_with n words t (length words == n)) test ∙ ap (λ (k : ℕ). Err (BadWord k)) counted

module _ (n : ℕ) (words left : List (List ℕ)) (count : ℕ) (objects : List ℕ) (so_far : AreFirstObjects n words left count objects) (none : left ≡ []) where
  all : count ≡ length words
  all = omega (arith, so_far.present, ap length none, ap length so_far.left, length-drop count words)

  good : nat_lt (number_count words) (length words) ≡ false
  good =
      let counted : number_count words ≡ count = prefix_len_is is_bounded_whole words count [] so_far.present so_far.numbers (λ more. absurd (omega (arith, all))) in
      is_not_less _ _ (omega (arith, counted, all))

  -- another number of words than n
  pub numbers_reading-length : count ≢ n → numbers_reading n words ≡ Err (Length count)
  numbers_reading-length other =
      let differ : (length words == n) ≡ false = is_other _ _ (λ e. other (all ∙ e)) in
      ap (λ (t : Bool). numbers_with n words t (length words == n)) good ∙ ap (λ (t : Bool). numbers_with n words false t) differ ∙ ap (λ (k : ℕ). Err (Length k)) (sym all)

  pub numbers_reading-all : count ≡ n → numbers_reading n words ≡ objects_reading n (map whole_value words)
  numbers_reading-all full =
      let whole : (length words == n) ≡ true = is_same _ _ (sym all ∙ full) in
      ap (λ (t : Bool). numbers_with n words t (length words == n)) good ∙ ap (λ (t : Bool). numbers_with n words false t) whole

  pub objects-all : count ≡ n → objects ≡ map object_in words
  objects-all full = so_far.kept ∙ ap (map object_in) (take_all (length objects) words (omega (arith, so_far.many, all)))

int_eq-other : (x y : ℤ) → (x ≡ y → ⊥) → int_eq x y ≡ false
int_eq-other x y other = by (int_eq x y) refl
  where
    by : (t : Bool) → int_eq x y ≡ t → t ≡ false
    by true is = absurd (other ((Decides-int_eq x y).0 is))
    by false is = refl

-- what clamping keeps

is_object-bounds : (n k : ℕ) → (nat_le 1 k && nat_le k n) ≡ true → (1 ≤ k) × (k ≤ n)
is_object-bounds n k is = (grind (arith, nat_tests), grind (arith, nat_tests))

is_object-in : (n k : ℕ) → 1 ≤ k → k ≤ n → (nat_le 1 k && nat_le k n) ≡ true
is_object-in n k low high = grind (arith, nat_tests)

clamped-in : (n : ℕ) (number : ℤ) → n < 65536 → is_object n number ≡ true → (clamped_object number ≡ object_of number) × (clamped_object number < n)
clamped-in n (pos k) small is =
    let bounds = is_object-bounds n k is in
    let wide : (nat_le 1 k && nat_le k 65535) ≡ true = is_object-in 65535 k bounds.0 (omega arith) in
    let same : clamped_object (pos k) ≡ object_of (pos k) = ap (λ (t : Bool). cond t (object_of (pos k)) 65535) wide in
    (same, omega (arith, same))
clamped-in n (negsuc k) small is = absurd cc

is_object-not : (n k : ℕ) → 1 ≤ k → (nat_le 1 k && nat_le k n) ≡ false → n < k
is_object-not n k low other = elim (cases_lt n k) [ inl above ↦ above | inr within ↦ let is : (nat_le 1 k && nat_le k n) ≡ true = is_object-in n k low within in absurd cc ]

clamped-out : (n : ℕ) (number : ℤ) → n < 65536 → is_object n number ≡ false → n ≤ clamped_object number
clamped-out n (pos k) small other = by (nat_le 1 k && nat_le k 65535) refl
  where
    by : (t : Bool) → (nat_le 1 k && nat_le k 65535) ≡ t → n ≤ cond t (k - 1) 65535
    by true is = let bounds = is_object-bounds 65535 k is in omega (arith, is_object-not n k bounds.0 other)
    by false is = omega arith
clamped-out n (negsuc k) small other = omega arith

object_of-same : (n : ℕ) (y z : ℤ) → is_object n y ≡ true → is_object n z ≡ true → object_of y ≡ object_of z → y ≡ z
object_of-same n (pos k) (pos l) y_is z_is e = let k_bounds = is_object-bounds n k y_is in let l_bounds = is_object-bounds n l z_is in ap pos (omega arith)
object_of-same n (negsuc k) z y_is z_is e = absurd cc
object_of-same n (pos k) (negsuc l) y_is z_is e = absurd cc

first_misplaced_is : (n : ℕ) (numbers : List ℤ) (p : ℕ) → p ≤ length numbers → ((k : ℕ) → k < p → is_misplaced n numbers k ≡ false) → (p < length numbers → is_misplaced n numbers p ≡ true) → first_misplaced n numbers ≡ p
first_misplaced_is n numbers p within before here =
    let m = length numbers in
    let at : (k : ℕ) → k < m → get_or (range_with_len 0 m) k 0 ≡ k = λ k below. omega (arith, get_or-range_with_len 0 m k 0 below) in
    position_or_len_is (is_misplaced n numbers) (range_with_len 0 m) p 0 (omega (arith, length-range_with_len 0 m))
    (λ k below. ap (is_misplaced n numbers) (at k (omega arith)) ∙ before k below)
    (λ more. ap (is_misplaced n numbers) (at p (omega (arith, length-range_with_len 0 m))) ∙ here (omega (arith, length-range_with_len 0 m)))

abbrev objects_with : ℕ → List ℤ → Bool → Result (List ℕ) OrderRefusal
objects_with n numbers misplaced = cond misplaced (Err (place_refusal n numbers (first_misplaced n numbers))) (Ok (map object_of numbers))

-- the objects that the numbers name, as a list that may be an order
module _ (n : ℕ) (numbers : List ℤ) (objects : List ℕ) (small : n < 65536) (are : objects ≡ map clamped_object numbers) (long : length objects ≡ n) where
  as_many : length numbers ≡ n
  as_many = sym (sym long ∙ ap length are ∙ length-map numbers clamped_object)

  object_at : (p : ℕ) → p < n → get_or objects p 0 ≡ clamped_object (number_at numbers p)
  object_at p below = ap (λ (l : List ℕ). get_or l p 0) are ∙ get_or-map clamped_object numbers p (pos 0) 0 (omega (arith, as_many))

  named : (p : ℕ) → p < n → get_or objects p 0 < n → is_object n (number_at numbers p) ≡ true
  named p below inside = by (is_object n (number_at numbers p)) refl
    where
      by : (t : Bool) → is_object n (number_at numbers p) ≡ t → t ≡ true
      by true is = refl
      by false is = absurd (omega (arith, clamped-out n (number_at numbers p) small is, object_at p below))

  object_is : (p : ℕ) → p < n → get_or objects p 0 < n → object_of (number_at numbers p) ≡ get_or objects p 0
  object_is p below inside = sym (clamped-in n (number_at numbers p) small (named p below inside)).0 ∙ sym (object_at p below)

  front_at : (p k : ℕ) (d : ℤ) → k < p → p < n → get_or (take p numbers) k d ≡ number_at numbers k
  front_at p k d before below = get_or-take p numbers k d before ∙ get_or_default numbers k d (pos 0) (omega (arith, as_many))

  placed : (p : ℕ) → p < n → get_or objects p 0 < n → ((j : ℕ) → j < p → get_or objects j 0 ≢ get_or objects p 0) → is_misplaced n numbers p ≡ false
  placed p below inside apart =
      let other : (k : ℕ) → k < p → int_eq (number_at numbers p) (number_at numbers k) ≡ false =
      λ k before. int_eq-other (number_at numbers p) (number_at numbers k) (λ (e : number_at numbers p ≡ number_at numbers k). apart k before (object_at k (omega arith) ∙ ap clamped_object (sym e) ∙ sym (object_at p below))) in
      let none : list_any (int_eq (number_at numbers p)) (take p numbers) ≡ false =
      list_any_none (int_eq (number_at numbers p)) (take p numbers) (λ k d within.
      let before : k < p = omega (arith, length-take p numbers) in
      ap (int_eq (number_at numbers p)) (front_at p k d before below) ∙ other k before) in
      ap (λ (t : Bool). not t || list_any (int_eq (number_at numbers p)) (take p numbers)) (named p below inside) ∙ none

  placed_before : (p : ℕ) → IsOrderBefore n objects p → (k : ℕ) → k < p → is_misplaced n numbers k ≡ false
  placed_before p before k below = placed k (omega (arith, before.within)) (before.below k below) (λ j earlier. before.distinct j k earlier below)

  refused : (p : ℕ) → p < n → first_misplaced n numbers ≡ p → objects_reading n numbers ≡ Err (place_refusal n numbers p)
  refused p below at =
      let test : nat_lt (first_misplaced n numbers) (length numbers) ≡ true = is_less _ _ (omega (arith, at, as_many)) in
      ap (λ (t : Bool). objects_with n numbers t) test ∙ ap (λ (k : ℕ). Err (place_refusal n numbers k)) at

  pub objects_reading-order : IsOrder n objects → objects_reading n numbers ≡ Ok objects
  objects_reading-order order =
      let at = first_misplaced_is n numbers n (omega (arith, as_many)) (λ k below. placed k below (order.below k below) (λ j earlier. order.distinct j k earlier below)) (λ more. absurd (omega (arith, as_many))) in
      let test : nat_lt (first_misplaced n numbers) (length numbers) ≡ false = is_not_less _ _ (omega (arith, at, as_many)) in
      let same : map object_of numbers ≡ objects =
      ext_get_or 0 (map object_of numbers) objects (length-map numbers object_of ∙ as_many ∙ sym long)
      (λ i below. let inside : i < n = omega (arith, as_many, length-map numbers object_of) in get_or-map object_of numbers i (pos 0) 0 (omega (arith, as_many)) ∙ object_is i inside (order.below i inside)) in
      ap (λ (t : Bool). objects_with n numbers t) test ∙ ap (λ (l : List ℕ). Ok l) same

  pub objects_reading-out : (p : ℕ) → IsOrderBefore n objects p → p < n → n ≤ get_or objects p 0 → objects_reading n numbers ≡ Err (OutOfRange p)
  objects_reading-out p before below out =
      let no_object : is_object n (number_at numbers p) ≡ false = unnamed (is_object n (number_at numbers p)) refl in
      let misplaced : is_misplaced n numbers p ≡ true = ap (λ (t : Bool). not t || list_any (int_eq (number_at numbers p)) (take p numbers)) no_object in
      let at = first_misplaced_is n numbers p (omega (arith, as_many)) (placed_before p before) (λ _. misplaced) in
      refused p below at ∙ ap (λ (t : Bool). Err (cond t (Repeated p) (OutOfRange p))) no_object
    where
      unnamed : (t : Bool) → is_object n (number_at numbers p) ≡ t → t ≡ false
      unnamed true is = absurd (omega (arith, (clamped-in n (number_at numbers p) small is).1, object_at p below))
      unnamed false is = refl

  pub objects_reading-repeated : (p : ℕ) → IsOrderBefore n objects p → p < n → Contains (take p objects) (get_or objects p 0) → objects_reading n numbers ≡ Err (Repeated p)
  objects_reading-repeated p before below (k, within, is) =
      let earlier : k < p = omega (arith, length-take p objects) in
      let equal : get_or objects k 0 ≡ get_or objects p 0 = get_or_default objects k 0 (get_or objects p 0) (omega arith) ∙ sym (get_or-take p objects k (get_or objects p 0) earlier) ∙ is in
      let first_inside : get_or objects k 0 < n = before.below k earlier in
      let inside : get_or objects p 0 < n = omega arith in
      let same : number_at numbers p ≡ number_at numbers k =
      object_of-same n _ _ (named p below inside) (named k (omega arith) first_inside) (object_is p below inside ∙ sym equal ∙ sym (object_is k (omega arith) first_inside)) in
      let hit : int_eq (number_at numbers p) (get_or (take p numbers) k (pos 0)) ≡ true = (Decides-int_eq _ _).1 (same ∙ sym (front_at p k (pos 0) earlier below)) in
      let some : list_any (int_eq (number_at numbers p)) (take p numbers) ≡ true = list_any_at (int_eq (number_at numbers p)) (take p numbers) k (pos 0) (omega (arith, length-take p numbers, as_many)) hit in
      let misplaced : is_misplaced n numbers p ≡ true = ap (λ (t : Bool). not t || list_any (int_eq (number_at numbers p)) (take p numbers)) (named p below inside) ∙ some in
      let at = first_misplaced_is n numbers p (omega (arith, as_many)) (placed_before p before) (λ _. misplaced) in
      refused p below at ∙ ap (λ (t : Bool). Err (cond t (Repeated p) (OutOfRange p))) (named p below inside)

pub objects-named : (words : List (List ℕ)) (objects : List ℕ) → objects ≡ map object_in words → objects ≡ map clamped_object (map whole_value words)
objects-named words objects e = e ∙ both words
  where
    both : (ws : List (List ℕ)) → map object_in ws ≡ map clamped_object (map whole_value ws)
    both [] = refl
    both (w ∷ ws) = ap (λ (l : List ℕ). object_in w ∷ l) (both ws)
