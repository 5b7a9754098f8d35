-- Lines, gathered one by one.
use Rattle.std.proofs.Common.{◌≡◌, ◌≢◌, ℕ, ◌+◌, ◌-◌, ◌<◌, ◌≤◌, ◌^◌, ◌==◌, leb, Bool, true, false, not, ◌&&◌, cond, List, [], ◌∷◌, ◌++◌, length, take, map, get_or, Option, None, Some, refl, sym, ◌∙◌, ap, arith}
use Rattle.std.specs.Option.{option_map}
use Rattle.std.proofs.lemmas.List.{append-nil, get_or-map, length-map, get_or-take, length-take-le}
use Rattle.std.proofs.lemmas.List.Folds.{list_any_at}
use Rattle.std.proofs.lemmas.Bool.Decides.{nat_tests}
use Rattle.lop_desk.specs.Number.{digits_value, is_digit_word}
use Rattle.lop_preflib.specs.First.{or_else}
use Rattle.lop_preflib.specs.Text.{is_number_to}
use Rattle.lop_preflib.specs.Line.{has_colon, count_word, list_text, pieces_in, object_of, size_word_of}
use Rattle.lop_preflib.specs.Groups.{item_of, are_bad_ties}
use Rattle.lop_preflib.specs.Names.{name_at}
use Rattle.lop_preflib.specs.Kind.{Says, no_name}
use Rattle.lop_preflib.specs.Profile.{IsCounted, votes}
use Rattle.lop_preflib.specs.Refusal.{stood_before, item_refusal, items_refusal, votes_refusal, order_refusal, sized_refusal, size_refusal}
use Rattle.lop_preflib.specs.Reading.{order_of}
use Rattle.lop_preflib.specs.Steps.{IsGathered}
use Rattle.lop_preflib.specs.declared.gathered.Gathered.{Gathered}
use Rattle.lop_preflib.specs.declared.refusal.PrefRefusal.{PrefRefusal}
use Rattle.lop_preflib.specs.declared.refusal.PrefRefusal.TheVariants.{BadLine, BadCount, Ties, BadAlternative, Repeated}
use Rattle.lop_preflib.proofs.FirstLemmas.{or_else-none, first_below-all}
use Rattle.lop_preflib.proofs.GroupsLemmas.{length-groups_in, first_group-in, same_or_next-in}

size_refusal-none : (size : Option ℕ) (line : ℕ) → size_refusal size line None ≡ None
size_refusal-none None line = refl
size_refusal-none (Some n) line = refl

-- a line that says nothing leaves all as it was
pub IsGathered-other : (line : List ℕ) (number : ℕ) (gathered : Gathered) → Says line None false no_name → IsGathered line number gathered gathered
IsGathered-other line number gathered says = record {
  good = ap (λ (t : Bool). cond t (sized_refusal gathered.size (votes gathered.orders) number line) (size_refusal gathered.size number (size_word_of line))) says.order_line ∙ ap (size_refusal gathered.size number) says.size_word ∙ size_refusal-none gathered.size number;
  size = sym (ap (λ (w : Option (List ℕ)). or_else gathered.size (option_map digits_value w)) says.size_word ∙ or_else-none gathered.size);
  names = λ i low high. sym (ap (or_else (name_at gathered.names i)) (says.names i low high) ∙ or_else-none (name_at gathered.names i));
  orders = sym (ap (λ (t : Bool). gathered.orders ++ cond t (order_of line ∷ []) []) says.order_line ∙ append-nil gathered.orders);
}

-- an item that isn't refused
item_good : (n line : ℕ) (items : List (List ℕ)) (k : ℕ) → item_refusal n line items k ≡ None → (is_number_to n (get_or items k []) ≡ true) × (stood_before (take k items) (digits_value (get_or items k [])) ≡ false)
item_good n line items k good = by (is_number_to n (get_or items k [])) (stood_before (take k items) (digits_value (get_or items k []))) good
  where
    by : (number stood : Bool) → cond (not number) (Some (BadAlternative line)) (cond stood (Some (Repeated line)) None) ≡ None → (number ≡ true) × (stood ≡ false)
    by true false good' = (refl, refl)
    by true true good' = absurd (cc good')
    by false stood good' = absurd (cc good')

number_range : (most : ℕ) (word : List ℕ) → is_number_to most word ≡ true → (1 ≤ digits_value word) × (digits_value word ≤ most)
number_range most word number = by (is_digit_word word) (digits_value word) number
  where
    by : (digits : Bool) (value : ℕ) → (digits && leb 1 value && leb value most) ≡ true → (1 ≤ value) × (value ≤ most)
    by digits value h = grind (arith, nat_tests)

-- an order line that isn't refused
order_good : (n voters line : ℕ) (text : List ℕ) → order_refusal n voters line text ≡ None → (is_number_to (10 ^ 18) (count_word text) ≡ true) × (items_refusal n line (map item_of (pieces_in (list_text text))) ≡ None)
order_good n voters line text good =
    by (has_colon text) (is_number_to (10 ^ 18) (count_word text)) (are_bad_ties (pieces_in (list_text text))) (items_refusal n line (map item_of (pieces_in (list_text text)))) good
  where
    by : (colon count brace : Bool) (items : Option PrefRefusal) → cond (not colon) (Some (BadLine line)) (cond (not count) (Some (BadCount line)) (cond brace (Some (Ties line)) (or_else items (votes_refusal line (voters + digits_value (count_word text)))))) ≡ None → (count ≡ true) × (items ≡ None)
    by true true false None good' = (refl, refl)
    by true true false (Some r) good' = absurd (cc good')
    by true true true items good' = absurd (cc good')
    by true false brace items good' = absurd (cc good')
    by false count brace items good' = absurd (cc good')

-- distinct numbers of alternatives rank distinct objects
module _ (n line : ℕ) (items : List (List ℕ)) (good : items_refusal n line items ≡ None) where
  item_at : (k : ℕ) → k < length items → (is_number_to n (get_or items k []) ≡ true) × (stood_before (take k items) (digits_value (get_or items k [])) ≡ false)
  item_at k low = item_good n line items k (first_below-all (item_refusal n line items) (length items) good k low)

  objects-at : (p : ℕ) → p < length items → get_or (map object_of items) p 0 ≡ digits_value (get_or items p []) - 1
  objects-at p low = get_or-map object_of items p [] 0 low

  pub objects-below : (p : ℕ) → p < length items → get_or (map object_of items) p 0 < n
  objects-below p low = omega (arith, objects-at p low, number_range n (get_or items p []) (item_at p low).0)

  pub objects-apart : (p q : ℕ) → p < q → q < length items → get_or (map object_of items) p 0 ≢ get_or (map object_of items) q 0
  objects-apart p q before low = λ same.
      let item = get_or items q [] in
      let first = number_range n (get_or items p []) (item_at p (omega (arith, before, low))).0 in
      let second = number_range n item (item_at q low).0 in
      let values : digits_value (get_or items p []) ≡ digits_value item = omega (arith, first, second, objects-at p (omega (arith, before, low)), objects-at q low, same) in
      let there : (digits_value (get_or (take q items) p []) == digits_value item) ≡ true = ap (λ (w : List ℕ). digits_value w == digits_value item) (get_or-take q items p [] before) ∙ same_test values in
      absurd (cc ((item_at q low).1, list_any_at (λ x. digits_value x == digits_value item) (take q items) p [] (omega (arith, before, low, length-take-le q items (omega (arith, low)))) there))
    where
      same_test : {a b : ℕ} → a ≡ b → (a == b) ≡ true
      same_test e = grind (arith, nat_tests)

-- the order of a line that isn't refused
pub IsCounted-order : (n voters line : ℕ) (text : List ℕ) → order_refusal n voters line text ≡ None → IsCounted n (order_of text)
IsCounted-order n voters line text good =
    let parts = order_good n voters line text good in
    let items = map item_of (pieces_in (list_text text)) in
    record {
      given = (number_range (10 ^ 18) (count_word text) parts.0).0;
      below = λ p low. objects-below n line items parts.1 p (omega (arith, low, length-map items object_of));
      distinct = λ p q before low. objects-apart n line items parts.1 p q before (omega (arith, low, length-map items object_of));
      grouped = length-groups_in (pieces_in (list_text text));
      first_group = first_group-in (pieces_in (list_text text));
      same_or_next = same_or_next-in (pieces_in (list_text text));
    }
