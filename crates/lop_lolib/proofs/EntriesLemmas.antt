-- Entries, word by word.
use Rattle.std.proofs.Common.{◌≡◌, ℕ, zero, suc, ◌+◌, ◌-◌, ◌*◌, ◌<◌, ◌≤◌, max, Bool, true, false, ◌&&◌, ◌==◌, cond, nat_lt, nat_le, nat_abs, ◌||◌, int_lt, ◌≤ℤ◌, List, [], ◌∷◌, ◌++◌, length, take, drop, map, get_or, ℤ, pos, Result, Err, refl, sym, ◌∙◌, ap, subst, inl, inr, arith}
use Rattle.std.specs.List.{fold}
use Rattle.std.specs.Ordering.{ord_max, nat_cmp, is_lt}
use Rattle.std.specs.declared.cmp.Ordering.TheVariants.{Less, Equal, Greater}
use Rattle.std.proofs.lemmas.List.{drop_more, take_more, length-drop, length-take, length_push, length-map, map-append, get_or-map, get_or-take}
use Rattle.std.proofs.lemmas.List.Sums.{prefix_len_is}
use Rattle.std.proofs.lemmas.Bool.{and_parts, leb-true, ltb-true, ltb-false, cases_lt}
use Rattle.std.proofs.lemmas.Bool.Decides.{nat_tests}
use Rattle.std.proofs.lemmas.Int.{ints}
use Rattle.lop_desk.specs.Number.{whole_value}
use Rattle.lop_model.specs.declared.weights.TheConstants.{MAX_OBJECTS}
use Rattle.lop_lolib.specs.declared.number.TheConstants.{MAX_DECIMALS, MAX_NUMBER}
use Rattle.lop_lolib.specs.Number.{is_decimal_word, decimal_count, digits_of}
use Rattle.lop_lolib.specs.Units.{most_decimals}
use Rattle.lop_lolib.specs.Numbers.{AreNumbers}
use Rattle.lop_lolib.specs.Words.{is_bounded_whole}
use Rattle.lop_lolib.specs.Reading.{words_reading, size_reading, rows_reading, units_reading, is_entry_word, entry_refusal, entry_count, IsRefusal}
use Rattle.lop_lolib.specs.declared.lolib.LolibFile.{LolibFile}
use Rattle.lop_lolib.specs.declared.refusal.LolibRefusal.{LolibRefusal}
use Rattle.lop_lolib.specs.declared.refusal.LolibRefusal.TheVariants.{Empty, BadSize, SizeRange, BadEntry, TooFine, TooWide, Short, TooHeavy, Memory}

-- the greatest of numbers

fold-push : {A B : Type 0} (f : B → A → B) (a : B) (xs : List A) (x : A) → fold f a (xs ++ x ∷ []) ≡ f (fold f a xs) x
fold-push f a [] x = refl
fold-push f a (y ∷ ys) x = fold-push f (f a y) ys x

greatest-from : (a : ℕ) (xs : List ℕ) → a ≤ fold max a xs
greatest-from a [] = omega arith
greatest-from a (x ∷ xs) = omega (arith, greatest-from (max a x) xs)

greatest-each : (a : ℕ) (xs : List ℕ) (k d : ℕ) → k < length xs → get_or xs k d ≤ fold max a xs
greatest-each a [] k d below = absurd (omega arith)
greatest-each a (x ∷ xs) zero d below = omega (arith, greatest-from (max a x) xs)
greatest-each a (x ∷ xs) (suc k) d below = greatest-each (max a x) xs k d (omega arith)

greatest-within : (m a : ℕ) (xs : List ℕ) → a ≤ m → ((k d : ℕ) → k < length xs → get_or xs k d ≤ m) → fold max a xs ≤ m
greatest-within m a [] first each = first
greatest-within m a (x ∷ xs) first each = let here = each 0 x (omega arith) in greatest-within m (max a x) xs (omega (arith, here)) (λ k d below. each (suc k) d (omega arith))

-- the digits and decimals are those of the first words, which are entries, and the other words are left
pub record AreFirstEntries (words others : List (List ℕ)) (digits : List ℤ) (decimals : List ℕ) (most : ℕ) : Type 0 where
  pub present : length digits ≤ length words
  pub entries : (k : ℕ) → k < length digits → is_entry_word (get_or words k []) ≡ true
  pub values : digits ≡ map digits_of (take (length digits) words)
  pub counts : decimals ≡ map decimal_count (take (length digits) words)
  pub greatest : most ≡ most_decimals (take (length digits) words)
  pub left : others ≡ drop (length digits) words

pub first_entries-none : (words : List (List ℕ)) → AreFirstEntries words words [] [] 0
first_entries-none words = record { present = omega arith; entries = λ k below. absurd (omega arith); values = refl; counts = refl; greatest = refl; left = refl }

-- the first word that is no entry, or none of the words for n * n entries
entry_count_is : (n : ℕ) (words : List (List ℕ)) (i : ℕ) → i ≤ n * n → i ≤ length words → ((k : ℕ) → k < i → is_entry_word (get_or words k []) ≡ true) → (i < n * n → i < length words → is_entry_word (get_or words i []) ≡ false) → entry_count n words ≡ i
entry_count_is n words i within present entries stops =
    let front = take (n * n) words in
    let same : (k : ℕ) → k < n * n → get_or front k [] ≡ get_or words k [] = λ k below. get_or-take (n * n) words k [] below in
    prefix_len_is is_entry_word front i [] (omega (arith, length-take (n * n) words))
    (λ k below. ap is_entry_word (same k (omega arith)) ∙ entries k below)
    (λ more. ap is_entry_word (same i (omega (arith, length-take (n * n) words))) ∙ stops (omega (arith, length-take (n * n) words)) (omega (arith, length-take (n * n) words)))

abbrev rows_with : ℕ → List (List ℕ) → Bool → Bool → Result LolibFile LolibRefusal
rows_with n words bad short = cond bad (Err (entry_refusal (entry_count n words) (get_or words (entry_count n words) []))) (cond short (Err (Short (length words))) (units_reading n (most_decimals (take (n * n) words)) (take (n * n) words) (length words - n * n)))

is_less : (a b : ℕ) → a < b → nat_lt a b ≡ true
is_less a b less = grind (arith, nat_tests)

is_not_less : (a b : ℕ) → b ≤ a → nat_lt a b ≡ false
is_not_less a b other = grind (arith, nat_tests)

-- what `max` answers
pub greater-is : (a b : ℕ) → ord_max nat_cmp a b ≡ max a b
greater-is a b = by (nat_lt b a) (b == a) refl
  where
    by : (t u : Bool) → nat_lt b a ≡ t → cond (is_lt (cond t Less (cond u Equal Greater))) a b ≡ max a b
    by true u less = let below : b < a = ltb-true b a less in omega arith
    by false true other = let upto : a ≤ b = ltb-false b a other in omega arith
    by false false other = let upto : a ≤ b = ltb-false b a other in omega arith

module _ (words left others : List (List ℕ)) (digits : List ℤ) (decimals : List ℕ) (most : ℕ) (word : List ℕ) (so_far : AreFirstEntries words left digits decimals most) (next : left ≡ word ∷ others) where
  left_is : word ∷ others ≡ drop (length digits) words
  left_is = sym next ∙ so_far.left

  more : length digits < length words
  more = omega (arith, ap length left_is, length-drop (length digits) words)

  here : (get_or words (length digits) [] ≡ word) × (drop (length digits + 1) words ≡ others)
  here = let e = left_is ∙ drop_more words (length digits) [] more in (cc, cc)

  -- one entry more
  pub first_entries-more : (value : ℤ) (longer : List ℤ) (count : ℕ) (counts : List ℕ) (most' : ℕ) → longer ≡ digits ++ value ∷ [] → counts ≡ decimals ++ count ∷ [] → most' ≡ max most count → is_entry_word word ≡ true → value ≡ digits_of word → count ≡ decimal_count word → AreFirstEntries words others longer counts most'
  first_entries-more value longer count counts most' longer_is counts_are most_is entry value_is count_is =
      let n = length digits in
      let long : length longer ≡ n + 1 = ap length longer_is ∙ length_push digits value in
      let took : take (n + 1) words ≡ take n words ++ word ∷ [] = take_more words n [] more ∙ ap (λ (w : List ℕ). take n words ++ w ∷ []) here.0 in
      record {
        present = omega (arith, more, long);
        entries = λ k below. elim (cases_lt k n) [ inl before ↦ so_far.entries k before | inr last ↦ let P : ℕ → Type 0 = λ i. is_entry_word (get_or words i []) ≡ true in subst P (omega (arith, long)) (ap is_entry_word here.0 ∙ entry) ];
        values = rw long (longer_is ∙ ap (λ (l : List ℤ). l ++ value ∷ []) so_far.values ∙ ap (λ (v : ℤ). map digits_of (take n words) ++ v ∷ []) value_is ∙ sym (ap (map digits_of) took ∙ map-append digits_of (take n words) (word ∷ [])));
        counts = rw long (counts_are ∙ ap (λ (l : List ℕ). l ++ count ∷ []) so_far.counts ∙ ap (λ (v : ℕ). map decimal_count (take n words) ++ v ∷ []) count_is ∙ sym (ap (map decimal_count) took ∙ map-append decimal_count (take n words) (word ∷ [])));
        greatest = rw long (most_is ∙ ap (λ (m : ℕ). max m count) so_far.greatest ∙ ap (max (most_decimals (take n words))) count_is ∙ sym (ap most_decimals took ∙ ap (fold max 0) (map-append decimal_count (take n words) (word ∷ [])) ∙ fold-push max 0 (map decimal_count (take n words)) (decimal_count word)));
        left = rw long (sym here.1);
      }

  -- a word that is no entry
  pub rows_reading-bad : (n : ℕ) → length digits < n * n → is_entry_word word ≡ false → rows_reading n words ≡ Err (entry_refusal (length digits) word)
  rows_reading-bad n within bad =
      let i = length digits in
      let count : entry_count n words ≡ i = entry_count_is n words i (omega arith) so_far.present so_far.entries (λ _ _. ap is_entry_word here.0 ∙ bad) in
      let test : nat_lt (entry_count n words) (length (take (n * n) words)) ≡ true = is_less _ _ (omega (arith, count, more, length-take (n * n) words)) in
      ap (λ (t : Bool). rows_with n words t (nat_lt (length words) (n * n))) test
      ∙ ap (λ (k : ℕ). Err (entry_refusal k (get_or words k []))) count
      ∙ ap (λ (w : List ℕ). Err (entry_refusal i w)) here.0

-- a refusal that is the text's
pub IsRefusal-from : (reading : Result LolibFile LolibRefusal) (refusal : LolibRefusal) → reading ≡ Err refusal → IsRefusal reading refusal
IsRefusal-from reading Empty e = e
IsRefusal-from reading (BadSize position) e = e
IsRefusal-from reading (SizeRange n) e = e
IsRefusal-from reading (BadEntry index) e = e
IsRefusal-from reading (TooFine index) e = e
IsRefusal-from reading (TooWide index) e = e
IsRefusal-from reading (Short count) e = e
IsRefusal-from reading (TooHeavy sum) e = e
IsRefusal-from reading Memory e = tt

-- a word that is an entry
pub entry-parts : (word : List ℕ) → is_entry_word word ≡ true → (decimal_count word ≤ MAX_DECIMALS) × (nat_abs (digits_of word) ≤ MAX_NUMBER)
entry-parts word is =
    let both = and_parts (is_decimal_word word && nat_le (decimal_count word) MAX_DECIMALS) (nat_le (nat_abs (digits_of word)) MAX_NUMBER) is in
    let fine = and_parts (is_decimal_word word) (nat_le (decimal_count word) MAX_DECIMALS) both.0 in
    (leb-true (decimal_count word) MAX_DECIMALS fine.1, leb-true (nat_abs (digits_of word)) MAX_NUMBER both.1)

module _ (words left : List (List ℕ)) (digits : List ℤ) (decimals : List ℕ) (most : ℕ) (so_far : AreFirstEntries words left digits decimals most) where
  pub first_entries-left : length left ≤ length words
  first_entries-left = omega (arith, ap length so_far.left, length-drop (length digits) words)

  -- all words are entries, and too few
  pub rows_reading-short : (n : ℕ) → left ≡ [] → length digits < n * n → rows_reading n words ≡ Err (Short (length digits))
  rows_reading-short n none short =
      let all : length digits ≡ length words = omega (arith, so_far.present, ap length none, ap length so_far.left, length-drop (length digits) words) in
      let count : entry_count n words ≡ length digits = entry_count_is n words (length digits) (omega arith) so_far.present so_far.entries (λ _ other. absurd (omega arith)) in
      let good : nat_lt (entry_count n words) (length (take (n * n) words)) ≡ false = is_not_less _ _ (omega (arith, count, length-take (n * n) words)) in
      let few : nat_lt (length words) (n * n) ≡ true = is_less _ _ (omega arith) in
      ap (λ (t : Bool). rows_with n words t (nat_lt (length words) (n * n))) good ∙ ap (λ (t : Bool). rows_with n words false t) few ∙ ap (λ (k : ℕ). Err (Short k)) (sym all)

  module _ (n : ℕ) (full : length digits ≡ n * n) where
    abbrev pub front : List (List ℕ)
    front = take (n * n) words

    many : length front ≡ n * n
    many = omega (arith, length-take (n * n) words, so_far.present, full)

    entry : (k : ℕ) → k < n * n → is_entry_word (get_or front k []) ≡ true
    entry k below = ap is_entry_word (get_or-take (n * n) words k [] below) ∙ so_far.entries k (omega (arith, full))

    counted : decimals ≡ map decimal_count front
    counted = so_far.counts ∙ ap (λ (k : ℕ). map decimal_count (take k words)) full

    valued : digits ≡ map digits_of front
    valued = so_far.values ∙ ap (λ (k : ℕ). map digits_of (take k words)) full

    greatest_is : most ≡ most_decimals front
    greatest_is = so_far.greatest ∙ ap (λ (k : ℕ). most_decimals (take k words)) full

    -- an entry for each row and column
    pub first_entries-numbers : AreNumbers front digits decimals most
    first_entries-numbers = record {
      values = valued;
      counts = counted;
      greatest = greatest_is;
      fine = omega (arith, greatest_is, greatest-within MAX_DECIMALS 0 (map decimal_count front) (omega arith) (λ k d below. let within : k < n * n = omega (arith, many, length-map front decimal_count) in omega (arith, get_or-map decimal_count front k [] d (omega (arith, many)), (entry-parts (get_or front k []) (entry k within)).0)));
      coarser = λ k d below. omega (arith, greatest_is, ap (λ (l : List ℕ). get_or l k d) counted, greatest-each 0 (map decimal_count front) k d (omega (arith, ap length counted)));
      narrow = λ k d below. let within : k < n * n = omega (arith, full) in omega (arith, ap (λ (l : List ℤ). nat_abs (get_or l k d)) valued, ap nat_abs (get_or-map digits_of front k [] d (omega (arith, many))), (entry-parts (get_or front k []) (entry k within)).1);
    }

    pub rows_reading-all : rows_reading n words ≡ units_reading n most front (length left)
    rows_reading-all =
        let count : entry_count n words ≡ length digits = entry_count_is n words (length digits) (omega arith) so_far.present so_far.entries (λ other _. absurd (omega arith)) in
        let good : nat_lt (entry_count n words) (length (take (n * n) words)) ≡ false = is_not_less _ _ (omega (arith, count, length-take (n * n) words)) in
        let enough : nat_lt (length words) (n * n) ≡ false = is_not_less _ _ (omega (arith, so_far.present)) in
        let tail : length words - n * n ≡ length left = omega (arith, ap length so_far.left, length-drop (length digits) words) in
        ap (λ (t : Bool). rows_with n words t (nat_lt (length words) (n * n))) good
        ∙ ap (λ (t : Bool). rows_with n words false t) enough
        ∙ ap (λ (k : ℕ). units_reading n k front (length words - n * n)) (sym greatest_is)
        ∙ ap (λ (k : ℕ). units_reading n most front k) tail

not_less : (x y : ℤ) → y ≤ℤ x → int_lt x y ≡ false
not_less x y le = grind (arith, ints)

-- a first word that is a number of objects
pub words_reading-size : (position : ℕ) (words others : List (List ℕ)) (word : List ℕ) (n : ℤ) → words ≡ word ∷ others → is_bounded_whole word ≡ true → n ≡ whole_value word → pos 1 ≤ℤ n → n ≤ℤ pos MAX_OBJECTS → words_reading position words ≡ rows_reading (nat_abs n) others
words_reading-size position words others word n split whole is low high =
    ap (words_reading position) split
    ∙ ap (λ (t : Bool). cond t (size_reading (whole_value word) others) (Err (BadSize position))) whole
    ∙ ap (λ (z : ℤ). size_reading z others) (sym is)
    ∙ ap (λ (t : Bool). cond (t || int_lt (pos MAX_OBJECTS) n) (Err (SizeRange n)) (rows_reading (nat_abs n) others)) (not_less n (pos 1) low)
    ∙ ap (λ (t : Bool). cond t (Err (SizeRange n)) (rows_reading (nat_abs n) others)) (not_less (pos MAX_OBJECTS) n high)
