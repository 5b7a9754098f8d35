-- The lines of a text, read one by one.
use Rattle.std.proofs.Common.{◌≡◌, ℕ, ◌+◌, ◌<◌, ◌≤◌, Bool, true, false, cond, List, [], ◌∷◌, ◌++◌, length, take, drop, map, get_or, filter, Option, None, Some, Result, Ok, Err, inl, inr, refl, sym, ◌∙◌, ap, subst, arith}
use Rattle.std.specs.List.{range_with_len}
use Rattle.std.specs.Option.{option_map, unwrap_or}
use Rattle.std.specs.Result.{IfErr}
use Rattle.std.proofs.lemmas.List.{drop_more, take_more, take_all, length-drop, map-append, append-nil, same_lists}
use Rattle.std.proofs.lemmas.List.FromFn.{get_or-map-range_with_len, length-map-range_with_len}
use Rattle.std.proofs.lemmas.List.Elements.{All-push, filter-append}
use Rattle.std.proofs.lemmas.Bool.{cases_eq}
use Rattle.lop_desk.specs.Number.{digits_value}
use Rattle.lop_preflib.specs.First.{or_else, first_answer}
use Rattle.lop_preflib.specs.Line.{size_word_of, name_for, is_order_line}
use Rattle.lop_preflib.specs.Names.{name_at}
use Rattle.lop_preflib.specs.Profile.{CountedOrder, ProfileFields, IsCounted, votes}
use Rattle.lop_preflib.specs.Refusal.{sized_refusal, size_refusal, line_refusal}
use Rattle.lop_preflib.specs.Reading.{size_in, name_in, order_of, orders_in, refusal_at, first_refusal, orders_reading, sized_reading, checked_reading, IsRefusal}
use Rattle.lop_preflib.specs.Gathered.{finished}
use Rattle.lop_preflib.specs.Steps.{IsStop, IsGathered, IsSize, AreCounted}
use Rattle.lop_preflib.specs.declared.gathered.Gathered.{Gathered}
use Rattle.lop_preflib.specs.declared.refusal.PrefRefusal.{PrefRefusal}
use Rattle.lop_preflib.specs.declared.refusal.PrefRefusal.TheVariants.{NoSize, SizeRange, BadLine, BadCount, Ties, BadAlternative, Repeated, TooMany, NoOrders, Memory}
use Rattle.lop_preflib.proofs.FirstLemmas.{first_answer-push, first_below-none, first_below-at}
use Rattle.lop_preflib.proofs.GatheredLemmas.{IsCounted-order}

-- the first k lines are read: none of them is refused, and what they say is gathered
pub record AreGathered (lines others : List (List ℕ)) (k : ℕ) (gathered : Gathered) : Type 0 where
  pub present : k ≤ length lines
  pub left : others ≡ drop k lines
  pub size_is : gathered.size ≡ size_in (take k lines)
  pub names_are : (i : ℕ) → 1 ≤ i → i ≤ 512 → name_at gathered.names i ≡ first_answer (name_for i) (take k lines)
  pub orders_are : gathered.orders ≡ orders_in (take k lines)
  pub known : IsSize gathered.size
  pub counted : AreCounted gathered.size gathered.orders
  pub good : (j : ℕ) → j < k → refusal_at lines j ≡ None

option_map-or_else : (a b : Option (List ℕ)) → option_map digits_value (or_else a b) ≡ or_else (option_map digits_value a) (option_map digits_value b)
option_map-or_else (Some a) b = refl
option_map-or_else None b = refl

orders_in-push : (lines : List (List ℕ)) (line : List ℕ) → orders_in (lines ++ line ∷ []) ≡ orders_in lines ++ cond (is_order_line line) (order_of line ∷ []) []
orders_in-push lines line =
    ap (map order_of) (filter-append is_order_line lines (line ∷ [])) ∙ map-append order_of (filter is_order_line lines) (filter is_order_line (line ∷ [])) ∙ ap (λ (os : List CountedOrder). orders_in lines ++ os) (by (is_order_line line))
  where
    by : (t : Bool) → map order_of (cond t (line ∷ []) []) ≡ cond t (order_of line ∷ []) []
    by true = refl
    by false = refl

-- more alternatives are known
IsCounted-more : (m n : ℕ) (order : CountedOrder) → m ≤ n → IsCounted m order → IsCounted n order
IsCounted-more m n order more counted = record {
  given = counted.given;
  below = λ p low. omega (arith, more, counted.below p low);
  distinct = counted.distinct;
  grouped = counted.grouped;
  first_group = counted.first_group;
  same_or_next = counted.same_or_next;
}

size_grows : (size : Option ℕ) (word : Option ℕ) → unwrap_or size 0 ≤ unwrap_or (or_else size word) 0
size_grows (Some n) word = omega arith
size_grows None word = omega arith

-- an order line that isn't refused is an order of the alternatives
counted_line : (size : Option ℕ) (voters number : ℕ) (line : List ℕ) → is_order_line line ≡ true → line_refusal size voters number line ≡ None → IsCounted (unwrap_or size 0) (order_of line)
counted_line None voters number line order good = absurd (cc (good, ap (λ (t : Bool). cond t (sized_refusal None voters number line) (size_refusal None number (size_word_of line))) order))
counted_line (Some n) voters number line order good =
    IsCounted-order n voters number line (sym (ap (λ (t : Bool). cond t (sized_refusal (Some n) voters number line) (size_refusal (Some n) number (size_word_of line))) order) ∙ good)

module _ (lines others left : List (List ℕ)) (k : ℕ) (before : Gathered) (line : List ℕ) (so_far : AreGathered lines left k before) (next : left ≡ line ∷ others) where
  left_is : line ∷ others ≡ drop k lines
  left_is = sym next ∙ so_far.left

  pub more : k < length lines
  more = omega (arith, ap length left_is, length-drop k lines)

  here : (get_or lines k [] ≡ line) × (drop (k + 1) lines ≡ others)
  here = let e = left_is ∙ drop_more lines k [] more in (cc, cc)

  taken : take (k + 1) lines ≡ take k lines ++ line ∷ []
  taken = take_more lines k [] more ∙ ap (λ (l : List ℕ). take k lines ++ l ∷ []) here.0

  -- the refusal of this line, as the reader finds it
  found : refusal_at lines k ≡ line_refusal before.size (votes before.orders) (k + 1) line
  found =
      ap (λ (s : Option ℕ). line_refusal s (votes (orders_in (take k lines))) (k + 1) (get_or lines k [])) (sym so_far.size_is)
      ∙ ap (λ (os : List CountedOrder). line_refusal before.size (votes os) (k + 1) (get_or lines k [])) (sym so_far.orders_are)
      ∙ ap (λ (l : List ℕ). line_refusal before.size (votes before.orders) (k + 1) l) here.0

  stopped : (refusal : PrefRefusal) → line_refusal before.size (votes before.orders) (k + 1) line ≡ Some refusal → checked_reading (first_refusal lines) lines ≡ Err refusal
  stopped refusal e = ap (λ (r : Option PrefRefusal). checked_reading r lines) (first_below-at (refusal_at lines) (length lines) k refusal more so_far.good (found ∙ e))

  -- a refusal of this line is the text's
  pub IsRefusal-line : (refusal : PrefRefusal) → IsStop (line_refusal before.size (votes before.orders) (k + 1) line) refusal → IsRefusal (checked_reading (first_refusal lines) lines) refusal
  IsRefusal-line Memory stop = tt
  IsRefusal-line (NoSize a) stop = stopped (NoSize a) stop
  IsRefusal-line (SizeRange a) stop = stopped (SizeRange a) stop
  IsRefusal-line (BadLine a) stop = stopped (BadLine a) stop
  IsRefusal-line (BadCount a) stop = stopped (BadCount a) stop
  IsRefusal-line (Ties a) stop = stopped (Ties a) stop
  IsRefusal-line (BadAlternative a) stop = stopped (BadAlternative a) stop
  IsRefusal-line (Repeated a) stop = stopped (Repeated a) stop
  IsRefusal-line (TooMany a) stop = stopped (TooMany a) stop
  IsRefusal-line NoOrders stop = stopped NoOrders stop

  module _ (after : Gathered) (number : ℕ) (number_is : number ≡ k + 1) (step : IsGathered line number before after) (known : IsSize after.size) where
    grows : unwrap_or before.size 0 ≤ unwrap_or after.size 0
    grows = subst (λ (s : Option ℕ). unwrap_or before.size 0 ≤ unwrap_or s 0) (sym step.size) (size_grows before.size (option_map digits_value (size_word_of line)))

    kept : AreCounted after.size before.orders
    kept = λ j d low. IsCounted-more (unwrap_or before.size 0) (unwrap_or after.size 0) (get_or before.orders j d) grows (so_far.counted j d low)

    counted_more : (order : Bool) → is_order_line line ≡ order → AreCounted after.size (before.orders ++ cond order (order_of line ∷ []) [])
    counted_more false e = subst (λ (os : List CountedOrder). AreCounted after.size os) (sym (append-nil before.orders)) kept
    counted_more true e = All-push (IsCounted (unwrap_or after.size 0)) before.orders (order_of line) kept
        (IsCounted-more (unwrap_or before.size 0) (unwrap_or after.size 0) (order_of line) grows (counted_line before.size (votes before.orders) number line e step.good))

    -- one line more
    pub are_gathered-more : AreGathered lines others number after
    are_gathered-more = record {
      present = omega (arith, more, number_is);
      left = rw number_is (sym here.1);
      size_is = rw (number_is, taken) (step.size ∙ ap (λ (s : Option ℕ). or_else s (option_map digits_value (size_word_of line))) so_far.size_is ∙ sym (ap (option_map digits_value) (first_answer-push size_word_of (take k lines) line) ∙ option_map-or_else (first_answer size_word_of (take k lines)) (size_word_of line)));
      names_are = λ i low high. rw (number_is, taken) (step.names i low high ∙ ap (λ (a : Option (List ℕ)). or_else a (name_for i line)) (so_far.names_are i low high) ∙ sym (first_answer-push (name_for i) (take k lines) line));
      orders_are = rw (number_is, taken) (step.orders ∙ ap (λ (os : List CountedOrder). os ++ cond (is_order_line line) (order_of line ∷ []) []) so_far.orders_are ∙ sym (orders_in-push (take k lines) line));
      known = known;
      counted = subst (λ (os : List CountedOrder). AreCounted after.size os) (sym step.orders) (counted_more (is_order_line line) refl);
      good = λ j low. elim (cases_eq j k) [ inl same ↦ subst (λ (i : ℕ). refusal_at lines i ≡ None) (sym same) (found ∙ ap (λ (m : ℕ). line_refusal before.size (votes before.orders) m line) (sym number_is) ∙ step.good) | inr other ↦ so_far.good j (omega (arith, low, number_is, other)) ];
    }

map-range : (f g : ℕ → List ℕ) (n : ℕ) → ((i : ℕ) → i < n → f (1 + i) ≡ g (1 + i)) → map f (range_with_len 1 n) ≡ map g (range_with_len 1 n)
map-range f g n same =
    same_lists (map f (range_with_len 1 n)) (map g (range_with_len 1 n)) (length-map-range_with_len f 1 n ∙ sym (length-map-range_with_len g 1 n))
    (λ k d within.
    let low : k < n = omega (arith, within, length-map-range_with_len f 1 n) in
    get_or-map-range_with_len f 1 n k (1 + k) d low refl ∙ same k low ∙ sym (get_or-map-range_with_len g 1 n k (1 + k) d low refl))

-- all lines are read
module _ (lines left : List (List ℕ)) (k : ℕ) (gathered : Gathered) (so_far : AreGathered lines left k gathered) (none : left ≡ []) where
  all_read : k ≡ length lines
  all_read = omega (arith, so_far.present, ap length none, ap length so_far.left, length-drop k lines)

  all_taken : take k lines ≡ lines
  all_taken = take_all k lines (omega (arith, all_read))

  names_same : (n : ℕ) → n ≤ 512 → map (λ number. unwrap_or (name_at gathered.names number) []) (range_with_len 1 n) ≡ map (name_in lines) (range_with_len 1 n)
  names_same n small = map-range (λ number. unwrap_or (name_at gathered.names number) []) (name_in lines) n (λ i low. ap (λ (a : Option (List ℕ)). unwrap_or a []) (so_far.names_are (1 + i) (omega arith) (omega (arith, low, small)) ∙ ap (first_answer (name_for (1 + i))) all_taken))

  same_end : (size : Option ℕ) → IsSize size → finished size k gathered.names gathered.orders ≡ sized_reading size lines
  same_end None known = ap (λ (m : ℕ). Err (NoSize m)) all_read
  same_end (Some n) known =
      ap (λ (names : List (List ℕ)). orders_reading (record { size = n; names = names; orders = gathered.orders })) (names_same n known.1)
      ∙ ap (λ (orders : List CountedOrder). orders_reading (record { size = n; names = map (name_in lines) (range_with_len 1 n); orders = orders })) (so_far.orders_are ∙ ap orders_in all_taken)

  -- the reading is what is gathered
  pub reading_finished : checked_reading (first_refusal lines) lines ≡ finished gathered.size k gathered.names gathered.orders
  reading_finished =
      ap (λ (r : Option PrefRefusal). checked_reading r lines) (first_below-none (refusal_at lines) (length lines) (λ j low. so_far.good j (omega (arith, low, all_read))))
      ∙ ap (λ (s : Option ℕ). sized_reading s lines) (sym (so_far.size_is ∙ ap size_in all_taken))
      ∙ sym (same_end gathered.size so_far.known)

-- a refusal of the reading
pub IsRefusal-reading : (reading : Result ProfileFields PrefRefusal) (refusal : PrefRefusal) → reading ≡ Err refusal → IsRefusal reading refusal
IsRefusal-reading reading Memory e = tt
IsRefusal-reading reading (NoSize a) e = e
IsRefusal-reading reading (SizeRange a) e = e
IsRefusal-reading reading (BadLine a) e = e
IsRefusal-reading reading (BadCount a) e = e
IsRefusal-reading reading (Ties a) e = e
IsRefusal-reading reading (BadAlternative a) e = e
IsRefusal-reading reading (Repeated a) e = e
IsRefusal-reading reading (TooMany a) e = e
IsRefusal-reading reading NoOrders e = e

pub IfErr-reading : {T : Type 0} (reading : Result ProfileFields PrefRefusal) (result : Result T PrefRefusal) → IfErr result (λ refusal. reading ≡ Err refusal) → IfErr result (IsRefusal reading)
IfErr-reading reading (Ok x) told = tt
IfErr-reading reading (Err refusal) told = IsRefusal-reading reading refusal told
