-- Digits, and a point among them.
use Rattle.std.proofs.Common.{◌≡◌, ℕ, zero, suc, ◌+◌, ◌-◌, ◌*◌, ◌<◌, ◌≤◌, min, Bool, true, false, not, ◌&&◌, ◌==◌, cond, nat_le, nat_lt, nat_abs, List, [], ◌∷◌, ◌++◌, length, take, drop, get_or, ℤ, pos, neg_ℤ, refl, sym, ◌∙◌, ap, inl, inr, arith}
use Rattle.std.specs.List.{prefix_len, position_or_len}
use Rattle.std.proofs.lemmas.List.{take_more, take_all, drop_all, append-nil, length-take, get_or-take}
use Rattle.std.proofs.lemmas.List.Sums.{prefix_len_passes, prefix_len_stops, position_or_len_is, passes_at_first}
use Rattle.std.proofs.lemmas.Bool.{and_parts, and_from, ne_eqb, eq-eqb, eqb-true, le-leb, lt-ltb, ltb-true, leb-true, cases_lt}
use Rattle.std.proofs.lemmas.Bool.Decides.{nat_tests}
use Rattle.lop_desk.specs.Number.{is_digit, all_digits, value_from, digits_value, is_digit_word, unsigned_word, whole_value}
use Rattle.lop_lolib.specs.Number.{is_point, point_place, behind_point, without_point, decimal_count, digits_of, number_word}
use Rattle.lop_lolib.specs.declared.number.TheConstants.{MAX_DECIMALS, MAX_NUMBER}
use Rattle.lop_lolib.specs.declared.number.NumberWord.{NumberWord}
use Rattle.lop_lolib.specs.declared.number.NumberWord.TheVariants.{Not, TooFine, TooWide, Good}

pub digit-in : (b : ℕ) → 48 ≤ b → b ≤ 57 → is_digit b ≡ true
digit-in b low high = and_from _ _ (le-leb 48 b low) (le-leb b 57 high)

pub digit-low : (b : ℕ) → b < 48 → is_digit b ≡ false
digit-low b below = grind (arith, nat_tests)

pub digit-high : (b : ℕ) → 57 < b → is_digit b ≡ false
digit-high b above = grind (arith, nat_tests)

-- one digit more
pub value_from-push : (s : ℕ) (bs : List ℕ) (b : ℕ) → value_from s (bs ++ b ∷ []) ≡ 10 * value_from s bs + (b - 48)
value_from-push s [] b = refl
value_from-push s (x ∷ bs) b = value_from-push (10 * s + (x - 48)) bs b

pub value_from-more : (s : ℕ) (bytes : List ℕ) (i : ℕ) → i < length bytes → value_from s (take (i + 1) bytes) ≡ 10 * value_from s (take i bytes) + (get_or bytes i 0 - 48)
value_from-more s bytes i within = ap (value_from s) (take_more bytes i 0 within) ∙ value_from-push s (take i bytes) (get_or bytes i 0)

-- digits behind digits
pub value_from-append : (s : ℕ) (xs ys : List ℕ) → value_from s (xs ++ ys) ≡ value_from (value_from s xs) ys
value_from-append s [] ys = refl
value_from-append s (x ∷ xs) ys = value_from-append (10 * s + (x - 48)) xs ys

-- cutting what stands before changes nothing but what is cut
pub value_from-cut : (top s t : ℕ) (bs : List ℕ) → min top s ≡ min top t → min top (value_from s bs) ≡ min top (value_from t bs)
value_from-cut top s t [] same = same
value_from-cut top s t (b ∷ bs) same = value_from-cut top (10 * s + (b - 48)) (10 * t + (b - 48)) bs (step s t (b - 48) same)
  where
    step : (s t d : ℕ) → min top s ≡ min top t → min top (10 * s + d) ≡ min top (10 * t + d)
    step s t d same = omega (arith, same)

pub all_digits-append : (xs ys : List ℕ) → all_digits (xs ++ ys) ≡ (all_digits xs && all_digits ys)
all_digits-append [] ys = refl
all_digits-append (x ∷ xs) ys = by (is_digit x) (all_digits-append xs ys)
  where
    by : (t : Bool) → all_digits (xs ++ ys) ≡ (all_digits xs && all_digits ys) → (t && all_digits (xs ++ ys)) ≡ ((t && all_digits xs) && all_digits ys)
    by true e = e
    by false e = refl

-- all are digits where the run of digits in front is as long as they are
pub all_digits-run : (bs : List ℕ) → prefix_len is_digit bs ≡ length bs → all_digits bs ≡ true
all_digits-run [] e = refl
all_digits-run (b ∷ bs) e = by (is_digit b) (all_digits-run bs) e
  where
    by : (t : Bool) → (prefix_len is_digit bs ≡ length bs → all_digits bs ≡ true) → cond t (1 + prefix_len is_digit bs) 0 ≡ suc (length bs) → (t && all_digits bs) ≡ true
    by true others e = others (omega (arith, e))
    by false others e = absurd (omega (arith, e))

pub all_digits-broken : (bs : List ℕ) → prefix_len is_digit bs < length bs → all_digits bs ≡ false
all_digits-broken [] e = absurd (omega (arith, e))
all_digits-broken (b ∷ bs) e = by (is_digit b) (all_digits-broken bs) e
  where
    by : (t : Bool) → (prefix_len is_digit bs < length bs → all_digits bs ≡ false) → cond t (1 + prefix_len is_digit bs) 0 < suc (length bs) → (t && all_digits bs) ≡ false
    by true others e = others (omega (arith, e))
    by false others e = refl

pub all_digits-not : (bs : List ℕ) (k : ℕ) → k < length bs → is_digit (get_or bs k 0) ≡ false → all_digits bs ≡ false
all_digits-not [] k below other = absurd (omega arith)
all_digits-not (b ∷ bs) zero below other = ap (λ (t : Bool). t && all_digits bs) other
all_digits-not (b ∷ bs) (suc k) below other = by (is_digit b) (all_digits-not bs k (omega arith) other)
  where
    by : (t : Bool) → all_digits bs ≡ false → (t && all_digits bs) ≡ false
    by true e = e
    by false e = refl

-- the run of digits itself
pub run-digits : (bs : List ℕ) → all_digits (take (prefix_len is_digit bs) bs) ≡ true
run-digits [] = refl
run-digits (b ∷ bs) = by (is_digit b) refl (run-digits bs)
  where
    by : (t : Bool) → is_digit b ≡ t → all_digits (take (prefix_len is_digit bs) bs) ≡ true → all_digits (take (cond t (1 + prefix_len is_digit bs) 0) (b ∷ bs)) ≡ true
    by true is others =
        let one : 1 + prefix_len is_digit bs ≡ suc (prefix_len is_digit bs) = omega arith in
        ap (λ (k : ℕ). all_digits (take k (b ∷ bs))) one ∙ ap (λ (t : Bool). t && all_digits (take (prefix_len is_digit bs) bs)) is ∙ others
    by false is others = refl

digit-no_point : (b : ℕ) → is_digit b ≡ true → is_point b ≡ false
digit-no_point b is =
    let low : 48 ≤ b = leb-true 48 b (and_parts (nat_le 48 b) (nat_le b 57) is).0 in
    ne_eqb b 46 (λ (e : b ≡ 46). absurd (omega arith))

-- no point stands within the run of digits
pub point-behind_run : (bs : List ℕ) (k : ℕ) → k < prefix_len is_digit bs → is_point (get_or bs k 0) ≡ false
point-behind_run bs k below = digit-no_point (get_or bs k 0) (prefix_len_passes is_digit bs k 0 below)

-- digits alone have no point
pub without_point-none : (bs : List ℕ) → point_place bs ≡ length bs → (without_point bs ≡ bs) × (decimal_count bs ≡ 0)
without_point-none bs none =
    let nothing : behind_point bs ≡ [] = drop_all (point_place bs + 1) bs (omega (arith, none)) in
    (ap (λ (l : List ℕ). take (point_place bs) bs ++ l) nothing ∙ append-nil (take (point_place bs) bs) ∙ take_all (point_place bs) bs (omega (arith, none)), ap length nothing)

module _ (bytes : List ℕ) (len : ℕ) (len_is : len ≡ prefix_len is_digit bytes) where
  -- digits alone
  pub plain-digits : len ≡ length bytes → (without_point bytes ≡ bytes) × (decimal_count bytes ≡ 0) × (all_digits bytes ≡ true)
  plain-digits all =
      let none : point_place bytes ≡ length bytes = position_or_len_is is_point bytes (length bytes) 0 (omega arith) (λ k within. point-behind_run bytes k (omega (arith, len_is, all))) (λ more. absurd (omega arith)) in
      let parts = without_point-none bytes none in
      (parts.0, parts.1, all_digits-run bytes (sym len_is ∙ all))

  -- a point behind the run of digits
  pub pointed : len < length bytes → get_or bytes len 0 ≡ 46 → point_place bytes ≡ len
  pointed more is = position_or_len_is is_point bytes len 0 (omega arith) (λ k below. point-behind_run bytes k (omega (arith, len_is))) (λ _. eq-eqb _ _ is)

  pub front-digits : all_digits (take len bytes) ≡ true
  front-digits = ap (λ (k : ℕ). all_digits (take k bytes)) len_is ∙ run-digits bytes

  -- neither a digit nor a point
  pub broken : len < length bytes → (get_or bytes len 0 ≡ 46 → ⊥) → all_digits (without_point bytes) ≡ false
  broken more other =
      let p = point_place bytes in
      let no_digit : is_digit (get_or bytes len 0) ≡ false = ap (λ (k : ℕ). is_digit (get_or bytes k 0)) len_is ∙ prefix_len_stops is_digit bytes 0 (omega (arith, len_is)) in
      let further : len < p = elim (cases_lt len p) [ inl behind ↦ behind | inr within ↦ absurd (here within) ] in
      all_digits-append (take p bytes) (behind_point bytes)
      ∙ ap (λ (t : Bool). t && all_digits (behind_point bytes)) (all_digits-not (take p bytes) len (omega (arith, length-take p bytes)) (ap is_digit (get_or-take p bytes len 0 further) ∙ no_digit))
    where
      here : point_place bytes ≤ len → ⊥
      here within =
          let p = point_place bytes in
          let at : is_point (get_or bytes p 0) ≡ true = passes_at_first is_point bytes 0 (omega arith) in
          elim (cases_lt p len) [
            | inl before ↦ let none = point-behind_run bytes p (omega (arith, len_is)) in absurd (cc)
            | inr same ↦ let equal : len ≡ p = omega arith in other (ap (λ (k : ℕ). get_or bytes k 0) equal ∙ eqb-true (get_or bytes p 0) 46 at)
          ]

  -- the digits before and behind the point
  pub parted : len < length bytes → get_or bytes len 0 ≡ 46 → (without_point bytes ≡ take len bytes ++ drop (len + 1) bytes) × (decimal_count bytes ≡ length (drop (len + 1) bytes))
  parted more is =
      let at = pointed more is in
      (ap (λ (k : ℕ). take k bytes ++ drop (k + 1) bytes) at, ap (λ (k : ℕ). length (drop (k + 1) bytes)) at)

pub digit_word-is : (bs : List ℕ) → 0 < length bs → all_digits bs ≡ true → is_digit_word bs ≡ true
digit_word-is bs some digits = and_from _ _ (lt-ltb 0 (length bs) some) digits

pub digit_word-broken : (bs : List ℕ) → all_digits bs ≡ false → is_digit_word bs ≡ false
digit_word-broken bs e = by (nat_lt 0 (length bs)) e
  where
    by : (t : Bool) → all_digits bs ≡ false → (t && all_digits bs) ≡ false
    by true e = e
    by false e = refl

pub digit_word-empty : (bs : List ℕ) → length bs ≡ 0 → is_digit_word bs ≡ false
digit_word-empty [] e = refl
digit_word-empty (b ∷ bs) e = absurd (omega (arith, e))

-- ---- a sign in front

shape : (b p : ℕ) (bs : List ℕ) (k m : ℕ) → k ≡ suc p → m ≡ suc (p + 1) → (take k (b ∷ bs) ++ drop m (b ∷ bs) ≡ b ∷ (take p bs ++ drop (p + 1) bs)) × (drop m (b ∷ bs) ≡ drop (p + 1) bs)
shape b p bs k m e f =
    (ap (λ (i : ℕ). take i (b ∷ bs) ++ drop m (b ∷ bs)) e ∙ ap (λ (j : ℕ). take (suc p) (b ∷ bs) ++ drop j (b ∷ bs)) f, ap (λ (j : ℕ). drop j (b ∷ bs)) f)

pub point-behind : (b : ℕ) (bs : List ℕ) → is_point b ≡ false → (without_point (b ∷ bs) ≡ b ∷ without_point bs) × (decimal_count (b ∷ bs) ≡ decimal_count bs)
point-behind b bs e =
    let place : point_place (b ∷ bs) ≡ 1 + point_place bs = ap (λ (t : Bool). cond (not t) (1 + position_or_len is_point bs) 0) e in
    let parts = shape b (point_place bs) bs (point_place (b ∷ bs)) (point_place (b ∷ bs) + 1) (omega (arith, place)) (omega (arith, place)) in
    (parts.0, ap length parts.1)

digit-no_sign : (d : ℕ) → is_digit d ≡ true → ((d == 43) ≡ false) × ((d == 45) ≡ false)
digit-no_sign d is =
    let low : 48 ≤ d = leb-true 48 d (and_parts (nat_le 48 d) (nat_le d 57) is).0 in
    (ne_eqb d 43 (λ (e : d ≡ 43). absurd (omega arith)), ne_eqb d 45 (λ (e : d ≡ 45). absurd (omega arith)))

-- digits have no sign
pub unsigned-digits : (ds : List ℕ) → all_digits ds ≡ true → unsigned_word ds ≡ ds
unsigned-digits [] e = refl
unsigned-digits (d ∷ ds) e =
    let other = digit-no_sign d (and_parts (is_digit d) (all_digits ds) e).0 in
    ap (λ (t : Bool). cond t ds (cond (d == 45) ds (d ∷ ds))) other.0 ∙ ap (λ (t : Bool). cond t ds (d ∷ ds)) other.1

pub value-digits : (ds : List ℕ) → 0 < length ds → all_digits ds ≡ true → whole_value ds ≡ pos (digits_value ds)
value-digits [] some e = absurd (omega arith)
value-digits (d ∷ ds) some e =
    let other = digit-no_sign d (and_parts (is_digit d) (all_digits ds) e).0 in
    ap (λ (t : Bool). cond t (neg_ℤ (pos (digits_value ds))) (pos (digits_value (unsigned_word (d ∷ ds))))) other.1 ∙ ap (λ (l : List ℕ). pos (digits_value l)) (unsigned-digits (d ∷ ds) e)

-- the number that a sign and digits give
abbrev pub signed : Bool → ℕ → ℤ
signed minus value = cond minus (neg_ℤ (pos value)) (pos value)

abbrev pub bare : List ℕ → List ℕ
bare word = without_point (unsigned_word word)

abbrev Parts : ℕ → List ℕ → List ℕ → Type 0
Parts b bs rest = (decimal_count (b ∷ bs) ≡ decimal_count rest) × (digits_of (b ∷ bs) ≡ signed (b == 45) (digits_value (without_point rest)))

pub word_sign : (word : List ℕ) → is_digit_word (bare word) ≡ true → (decimal_count word ≡ decimal_count (unsigned_word word)) × (digits_of word ≡ signed (get_or word 0 0 == 45) (digits_value (bare word)))
word_sign [] is = absurd (cc)
word_sign (b ∷ bs) is = plus (b == 43) refl is
  where
    minus : (t : Bool) → (b == 43) ≡ false → (b == 45) ≡ t → is_digit_word (without_point (cond t bs (b ∷ bs))) ≡ true → Parts b bs (cond t bs (b ∷ bs))
    minus true other e digits =
        let is_minus : b ≡ 45 = eqb-true b 45 e in
        let no_point : is_point b ≡ false = ne_eqb b 46 (λ (f : b ≡ 46). absurd (omega arith)) in
        let parts = point-behind b bs no_point in
        let v = digits_value (without_point bs) in
        (parts.1, ap whole_value parts.0 ∙ ap (λ (t : Bool). cond t (neg_ℤ (pos v)) (pos (digits_value (unsigned_word (b ∷ without_point bs))))) e ∙ sym (ap (λ (t : Bool). signed t v) e))
    minus false other e digits =
        let w = without_point (b ∷ bs) in
        let both = and_parts (nat_lt 0 (length w)) (all_digits w) digits in
        (refl, value-digits w (ltb-true 0 (length w) both.0) both.1 ∙ sym (ap (λ (t : Bool). signed t (digits_value w)) e))

    plus : (t : Bool) → (b == 43) ≡ t → is_digit_word (without_point (cond t bs (cond (b == 45) bs (b ∷ bs)))) ≡ true → Parts b bs (cond t bs (cond (b == 45) bs (b ∷ bs)))
    plus true e digits =
        let is_plus : b ≡ 43 = eqb-true b 43 e in
        let no_point : is_point b ≡ false = ne_eqb b 46 (λ (f : b ≡ 46). absurd (omega arith)) in
        let no_minus : (b == 45) ≡ false = ne_eqb b 45 (λ (f : b ≡ 45). absurd (omega arith)) in
        let parts = point-behind b bs no_point in
        let w = without_point bs in (
          parts.1,
          ap whole_value parts.0
              ∙ ap (λ (t : Bool). cond t (neg_ℤ (pos (digits_value w))) (pos (digits_value (cond (b == 43) w (cond t w (b ∷ w)))))) no_minus
              ∙ ap (λ (t : Bool). pos (digits_value (cond t w (b ∷ w)))) e
              ∙ sym (ap (λ (t : Bool). signed t (digits_value w)) no_minus),
        )
    plus false e digits = minus (b == 45) e refl digits

signed-abs : (t : Bool) (v : ℕ) → nat_abs (signed t v) ≡ v
signed-abs false v = refl
signed-abs true zero = refl
signed-abs true (suc v) = refl

is_less : (a b : ℕ) → a < b → nat_lt a b ≡ true
is_less a b less = lt-ltb a b less

is_not_less : (a b : ℕ) → b ≤ a → nat_lt a b ≡ false
is_not_less a b other = grind (arith, nat_tests)

abbrev word_with : List ℕ → Bool → Bool → Bool → NumberWord
word_with word number fine wide = cond number (cond fine TooFine (cond wide TooWide (Good (digits_of word) (decimal_count word)))) Not

pub number_word-not : (word : List ℕ) → is_digit_word (bare word) ≡ false → number_word word ≡ Not
number_word-not word is = ap (λ (t : Bool). word_with word t (nat_lt MAX_DECIMALS (decimal_count word)) (nat_lt MAX_NUMBER (nat_abs (digits_of word)))) is

module _ (word : List ℕ) (is : is_digit_word (bare word) ≡ true) (count : ℕ) (count_is : count ≡ decimal_count (unsigned_word word)) where
  counted : decimal_count word ≡ count
  counted = (word_sign word is).0 ∙ sym count_is

  number : number_word word ≡ word_with word true (nat_lt MAX_DECIMALS count) (nat_lt MAX_NUMBER (nat_abs (digits_of word)))
  number = ap (λ (t : Bool). word_with word t (nat_lt MAX_DECIMALS (decimal_count word)) (nat_lt MAX_NUMBER (nat_abs (digits_of word)))) is ∙ ap (λ (k : ℕ). word_with word true (nat_lt MAX_DECIMALS k) (nat_lt MAX_NUMBER (nat_abs (digits_of word)))) counted

  pub number_word-fine : MAX_DECIMALS < count → number_word word ≡ TooFine
  number_word-fine more = number ∙ ap (λ (t : Bool). word_with word true t (nat_lt MAX_NUMBER (nat_abs (digits_of word)))) (is_less MAX_DECIMALS count more)

  module _ (few : count ≤ MAX_DECIMALS) (value : ℕ) (value_is : value ≡ min (MAX_NUMBER + 1) (digits_value (bare word))) where
    abs : nat_abs (digits_of word) ≡ digits_value (bare word)
    abs = ap nat_abs (word_sign word is).1 ∙ signed-abs (get_or word 0 0 == 45) (digits_value (bare word))

    coarse : number_word word ≡ word_with word true false (nat_lt MAX_NUMBER (digits_value (bare word)))
    coarse = number ∙ ap (λ (t : Bool). word_with word true t (nat_lt MAX_NUMBER (nat_abs (digits_of word)))) (is_not_less MAX_DECIMALS count few) ∙ ap (λ (v : ℕ). word_with word true false (nat_lt MAX_NUMBER v)) abs

    pub number_word-wide : MAX_NUMBER < value → number_word word ≡ TooWide
    number_word-wide more = coarse ∙ ap (λ (t : Bool). word_with word true false t) (is_less MAX_NUMBER (digits_value (bare word)) (omega (arith, value_is)))

    pub number_word-good : value ≤ MAX_NUMBER → number_word word ≡ Good (signed (get_or word 0 0 == 45) value) count
    number_word-good within =
        let same : digits_value (bare word) ≡ value = omega (arith, value_is) in
        let digits : digits_of word ≡ signed (get_or word 0 0 == 45) value = (word_sign word is).1 ∙ ap (λ (v : ℕ). signed (get_or word 0 0 == 45) v) same in
        coarse ∙ ap (λ (t : Bool). word_with word true false t) (is_not_less MAX_NUMBER (digits_value (bare word)) (omega (arith, same))) ∙ ap (λ (v : ℤ). Good v (decimal_count word)) digits ∙ ap (λ (k : ℕ). Good (signed (get_or word 0 0 == 45) value) k) counted
