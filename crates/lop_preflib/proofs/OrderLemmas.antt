-- The tests of an order line, in their order.
use Rattle.std.proofs.Common.{◌≡◌, ℕ, ◌+◌, ◌^◌, ◌<◌, ◌≤◌, Bool, true, false, not, cond, ltb, List, length, map, Option, None, Some, refl, sym, ◌∙◌, ap}
use Rattle.std.specs.List.{list_any, before_first, after_first}
use Rattle.std.proofs.lemmas.Bool.{lt-ltb, le-ltb}
use Rattle.lop_desk.specs.Number.{digits_value}
use Rattle.lop_preflib.specs.First.{or_else}
use Rattle.lop_preflib.specs.Text.{trim, is_number_to}
use Rattle.lop_preflib.specs.Line.{is_colon, has_colon, count_word, list_text, pieces_in, object_of}
use Rattle.lop_preflib.specs.Groups.{item_of, groups_in, are_bad_ties}
use Rattle.lop_preflib.specs.Refusal.{items_refusal, votes_refusal, order_refusal}
use Rattle.lop_preflib.specs.declared.refusal.PrefRefusal.{PrefRefusal}
use Rattle.lop_preflib.specs.declared.refusal.PrefRefusal.TheVariants.{NoSize, SizeRange, BadLine, BadCount, Ties, BadAlternative, Repeated, TooMany, NoOrders, Memory}
use Rattle.lop_preflib.proofs.GroupsLemmas.{length-groups_in}
use Rattle.lop_preflib.specs.Steps.{IsStop, IsOrderRead}

module _ (n voters line : ℕ) (text : List ℕ) where
  -- what is tested behind the braces
  abbrev pub later_refusal : Option PrefRefusal
  later_refusal = or_else (items_refusal n line (map item_of (pieces_in (list_text text)))) (votes_refusal line (voters + digits_value (count_word text)))

  pub order_refusal-tests : (colon count brace : Bool) → has_colon text ≡ colon → is_number_to (10 ^ 18) (count_word text) ≡ count → are_bad_ties (pieces_in (list_text text)) ≡ brace → order_refusal n voters line text ≡ cond (not colon) (Some (BadLine line)) (cond (not count) (Some (BadCount line)) (cond brace (Some (Ties line)) later_refusal))
  order_refusal-tests colon count brace e f g =
      ap (λ (t : Bool). cond (not t) (Some (BadLine line)) (cond (not (is_number_to (10 ^ 18) (count_word text))) (Some (BadCount line)) (cond (are_bad_ties (pieces_in (list_text text))) (Some (Ties line)) later_refusal))) e
      ∙ ap (λ (t : Bool). cond (not colon) (Some (BadLine line)) (cond (not t) (Some (BadCount line)) (cond (are_bad_ties (pieces_in (list_text text))) (Some (Ties line)) later_refusal))) f
      ∙ ap (λ (t : Bool). cond (not colon) (Some (BadLine line)) (cond (not count) (Some (BadCount line)) (cond t (Some (Ties line)) later_refusal))) g

-- the count and the list of an order line
pub record IsCut (text word list : List ℕ) : Type 0 where
  pub colon : has_colon text ≡ true
  pub word_is : word ≡ count_word text
  pub list_is : list ≡ list_text text

pub IsCut-parts : (text trimmed front list word : List ℕ) → trimmed ≡ trim text → (list_any is_colon trimmed ≡ true) × (front ≡ before_first is_colon trimmed) × (list ≡ after_first is_colon trimmed) → word ≡ trim front → IsCut text word list
IsCut-parts text trimmed front list word is parts word_of = record {
  colon = ap (list_any is_colon) (sym is) ∙ parts.0;
  word_is = word_of ∙ ap trim (parts.1 ∙ ap (before_first is_colon) is);
  list_is = parts.2 ∙ ap (after_first is_colon) is;
}

module _ (n voters line : ℕ) (text word list : List ℕ) (is : IsCut text word list) where
  same_count : (t : Bool) → is_number_to (10 ^ 18) word ≡ t → is_number_to (10 ^ 18) (count_word text) ≡ t
  same_count t e = ap (is_number_to (10 ^ 18)) (sym is.word_is) ∙ e

  same_brace : (t : Bool) → are_bad_ties (pieces_in list) ≡ t → are_bad_ties (pieces_in (list_text text)) ≡ t
  same_brace t e = ap (λ (l : List ℕ). are_bad_ties (pieces_in l)) (sym is.list_is) ∙ e

  pub refused-count : is_number_to (10 ^ 18) word ≡ false → order_refusal n voters line text ≡ Some (BadCount line)
  refused-count bad = order_refusal-tests n voters line text true false (are_bad_ties (pieces_in (list_text text))) is.colon (same_count false bad) refl

  module _ (number : is_number_to (10 ^ 18) word ≡ true) where
    pub refused-ties : are_bad_ties (pieces_in list) ≡ true → order_refusal n voters line text ≡ Some (Ties line)
    refused-ties brace = order_refusal-tests n voters line text true true true is.colon (same_count true number) (same_brace true brace)

    module _ (none : are_bad_ties (pieces_in list) ≡ false) where
      later : order_refusal n voters line text ≡ later_refusal n voters line text
      later = order_refusal-tests n voters line text true true false is.colon (same_count true number) (same_brace false none)

      items : (found : Option PrefRefusal) → items_refusal n line (map item_of (pieces_in list)) ≡ found → order_refusal n voters line text ≡ or_else found (votes_refusal line (voters + digits_value (count_word text)))
      items found e = later ∙ ap (λ (f : Option PrefRefusal). or_else f (votes_refusal line (voters + digits_value (count_word text)))) (ap (λ (l : List ℕ). items_refusal n line (map item_of (pieces_in l))) (sym is.list_is) ∙ e)

      pub refused-items : (refusal : PrefRefusal) → items_refusal n line (map item_of (pieces_in list)) ≡ Some refusal → order_refusal n voters line text ≡ Some refusal
      refused-items refusal e = items (Some refusal) e

      module _ (count : ℕ) (count_is : count ≡ digits_value word) (good : items_refusal n line (map item_of (pieces_in list)) ≡ None) where
        votes_test : (t : Bool) → ltb (10 ^ 18) (voters + count) ≡ t → order_refusal n voters line text ≡ cond t (Some (TooMany line)) None
        votes_test t e =
            items None good
            ∙ ap (λ (v : ℕ). cond (ltb (10 ^ 18) (voters + v)) (Some (TooMany line)) None) (sym (count_is ∙ ap digits_value is.word_is))
            ∙ ap (λ (b : Bool). cond b (Some (TooMany line)) None) e

        pub refused-votes : 10 ^ 18 < voters + count → order_refusal n voters line text ≡ Some (TooMany line)
        refused-votes many = votes_test true (lt-ltb (10 ^ 18) (voters + count) many)

        pub order_read : (ranked groups : List ℕ) → ranked ≡ map object_of (map item_of (pieces_in list)) → groups ≡ groups_in (pieces_in list) → voters + count ≤ 10 ^ 18 → IsOrderRead text n voters line count ranked groups
        order_read ranked groups ranked_of groups_of few = record {
          good = votes_test false (le-ltb (10 ^ 18) (voters + count) few);
          count_is = count_is ∙ ap digits_value is.word_is;
          ranked_is = ranked_of ∙ ap (λ (l : List ℕ). map object_of (map item_of (pieces_in l))) is.list_is;
          groups_are = groups_of ∙ ap (λ (l : List ℕ). groups_in (pieces_in l)) is.list_is;
          grouped = ap length groups_of ∙ length-groups_in (pieces_in list) ∙ sym (ap length ranked_of);
          few = few;
        }

-- what stops the items stops the order
pub IsStop-items : (found whole : Option PrefRefusal) (refusal : PrefRefusal) → ((r : PrefRefusal) → found ≡ Some r → whole ≡ Some r) → IsStop found refusal → IsStop whole refusal
IsStop-items found whole Memory lift stop = tt
IsStop-items found whole (NoSize a) lift stop = lift (NoSize a) stop
IsStop-items found whole (SizeRange a) lift stop = lift (SizeRange a) stop
IsStop-items found whole (BadLine a) lift stop = lift (BadLine a) stop
IsStop-items found whole (BadCount a) lift stop = lift (BadCount a) stop
IsStop-items found whole (Ties a) lift stop = lift (Ties a) stop
IsStop-items found whole (BadAlternative a) lift stop = lift (BadAlternative a) stop
IsStop-items found whole (Repeated a) lift stop = lift (Repeated a) stop
IsStop-items found whole (TooMany a) lift stop = lift (TooMany a) stop
IsStop-items found whole NoOrders lift stop = lift NoOrders stop
