-- Numbers in units.
use Rattle.std.proofs.Common.{◌≡◌, ℕ, ◌+◌, ◌-◌, ◌^◌, ◌<◌, ◌≤◌, Bool, true, false, cond, nat_lt, nat_abs, List, [], length, map, get_or, ℤ, pos, negsuc, ◌*ℤ◌, set, take, drop, ◌++◌, FitsSigned, w64, inl, inr, Result, Err, refl, sym, ◌∙◌, ap, subst, arith}
use Rattle.std.proofs.Math.Nat.{pow-le-pow_right}
use Rattle.std.proofs.lemmas.Int.{ints, fits_signed_from_abs}
use Rattle.std.proofs.lemmas.List.{length-map, get_or-map, get_or-set_same, get_or-set_other, length-set, ext_get_or, take_all, drop_all, append-nil}
use Rattle.std.proofs.lemmas.List.Sums.{position_or_len_is}
use Rattle.std.proofs.lemmas.Bool.{cases_lt}
use Rattle.std.proofs.lemmas.Bool.Decides.{nat_tests}
use Rattle.lop_lolib.specs.declared.number.TheConstants.{MAX_NUMBER}
use Rattle.lop_lolib.specs.Number.{decimal_count, digits_of}
use Rattle.lop_lolib.specs.Units.{units_of, word_units, is_wide, first_wide}
use Rattle.lop_lolib.specs.Numbers.{AreNumbers, AreUnits, IsFirstWide, units_at}
use Rattle.lop_lolib.specs.Reading.{units_reading, entries_reading}
use Rattle.lop_lolib.specs.declared.lolib.LolibFile.{LolibFile}
use Rattle.lop_lolib.specs.declared.refusal.LolibRefusal.{LolibRefusal}
use Rattle.lop_lolib.specs.declared.refusal.LolibRefusal.TheVariants.{TooWide}

is_less : (a b : ℕ) → a < b → nat_lt a b ≡ true
is_less a b less = grind (arith, nat_tests)

is_not_less : (a b : ℕ) → b ≤ a → nat_lt a b ≡ false
is_not_less a b other = grind (arith, nat_tests)

-- a unit is at most a million of the finest
pub power-within : (e : ℕ) → e ≤ 6 → 10 ^ e ≤ 1000000
power-within e fine =
    let ten : 0 < 10 = omega arith in
    let most : 10 ^ 6 ≡ 1000000 = refl in
    omega (arith, most, pow-le-pow_right ten fine)

-- a number that an entry may be fits in 64 bits
pub narrow-fits : (z : ℤ) → nat_abs z ≤ MAX_NUMBER → FitsSigned w64 z
narrow-fits (pos n) low = fits_signed_from_abs w64 (pos n) (omega arith)
narrow-fits (negsuc n) low = fits_signed_from_abs w64 (negsuc n) (omega arith)

-- a list whose slice was written whole
pub written-back : (written old : List ℤ) (len : ℕ) → len ≡ length old → length written ≡ length old → take len (written ++ drop (length written) old) ≡ written
written-back written old len whole long =
    ap (λ (l : List ℤ). take len (written ++ l)) (drop_all (length written) old (omega arith)) ∙ ap (take len) (append-nil written) ∙ take_all len written (omega arith)

-- without decimals the digits are the units
times_one : (z : ℤ) (d : ℕ) → units_of 0 z d ≡ z
times_one z d =
    let none : 0 - d ≡ 0 = omega arith in
    ap (λ (e : ℕ). z *ℤ pos (10 ^ e)) none ∙ (omega (arith, ints))

pub units-whole : (digits : List ℤ) (decimals : List ℕ) → ((i : ℕ) → i < length digits → nat_abs (get_or digits i (pos 0)) ≤ MAX_NUMBER) → AreUnits 0 digits decimals digits (length digits)
units-whole digits decimals narrow = record {
  each = λ i below. sym (times_one (get_or digits i (pos 0)) (get_or decimals i 0));
  narrow = λ i below. omega (arith, narrow i below, ap nat_abs (times_one (get_or digits i (pos 0)) (get_or decimals i 0)));
}

-- the numbers before a place are in units, and those from it on are as they were
pub record AreUnitsSoFar (k : ℕ) (digits : List ℤ) (decimals : List ℕ) (units : List ℤ) (place : ℕ) : Type 0 where
  pub long : length units ≡ length digits
  pub before : AreUnits k digits decimals units place
  pub behind : (i : ℕ) → place ≤ i → get_or units i (pos 0) ≡ get_or digits i (pos 0)

pub units_so_far-none : (k : ℕ) (digits : List ℤ) (decimals : List ℕ) → AreUnitsSoFar k digits decimals digits 0
units_so_far-none k digits decimals = record {
  long = refl;
  before = record { each = λ i below. absurd (omega arith); narrow = λ i below. absurd (omega arith) };
  behind = λ i below. refl;
}

pub units_so_far-more : (k : ℕ) (digits : List ℤ) (decimals : List ℕ) (units : List ℤ) (place : ℕ) (value : ℤ) → AreUnitsSoFar k digits decimals units place → place < length digits → value ≡ units_at k digits decimals place → nat_abs value ≤ MAX_NUMBER → AreUnitsSoFar k digits decimals (set units place value) (place + 1)
units_so_far-more k digits decimals units place value so_far inside is narrow =
    let within : place < length units = omega (arith, so_far.long) in
    record {
      long = length-set units place value ∙ so_far.long;
      before = record {
        each = λ i below. elim (cases_lt i place) [
          | inl earlier ↦ get_or-set_other units place i value (pos 0) (λ (e : i ≡ place). absurd (omega arith)) ∙ so_far.before.each i earlier
          | inr last ↦ let P : ℕ → Type 0 = λ j. get_or (set units place value) j (pos 0) ≡ units_at k digits decimals j in subst P (omega arith) (get_or-set_same units place value (pos 0) within ∙ is)
        ];
        narrow = λ i below. elim (cases_lt i place) [
          | inl earlier ↦ so_far.before.narrow i earlier
          | inr last ↦ let P : ℕ → Type 0 = λ j. nat_abs (units_at k digits decimals j) ≤ MAX_NUMBER in subst P (omega arith) (subst (λ (z : ℤ). nat_abs z ≤ MAX_NUMBER) is narrow)
        ];
      };
      behind = λ i below. get_or-set_other units place i value (pos 0) (λ (e : i ≡ place). absurd (omega arith)) ∙ so_far.behind i (omega arith);
    }

module _ (n k tail : ℕ) (words : List (List ℕ)) (digits : List ℤ) (decimals : List ℕ) (are : AreNumbers words digits decimals k) where
  as_many : length digits ≡ length words
  as_many = ap length are.values ∙ length-map words digits_of

  at : (i : ℕ) → i < length words → units_at k digits decimals i ≡ word_units k (get_or words i [])
  at i below =
      let value : get_or digits i (pos 0) ≡ digits_of (get_or words i []) = ap (λ (l : List ℤ). get_or l i (pos 0)) are.values ∙ get_or-map digits_of words i [] (pos 0) below in
      let count : get_or decimals i 0 ≡ decimal_count (get_or words i []) = ap (λ (l : List ℕ). get_or l i 0) are.counts ∙ get_or-map decimal_count words i [] 0 below in
      ap (λ (v : ℤ). units_of k v (get_or decimals i 0)) value ∙ ap (units_of k (digits_of (get_or words i []))) count

  narrow_at : (i : ℕ) → i < length words → nat_abs (units_at k digits decimals i) ≤ MAX_NUMBER → is_wide k (get_or words i []) ≡ false
  narrow_at i below within = is_not_less _ _ (omega (arith, within, ap nat_abs (at i below)))

  abbrev units_with : Bool → Result LolibFile LolibRefusal
  units_with wide = cond wide (Err (TooWide (first_wide k words))) (entries_reading n k (map (word_units k) words) tail)

  pub units_reading-narrow : (units : List ℤ) → length units ≡ length digits → AreUnits k digits decimals units (length digits) → units_reading n k words tail ≡ entries_reading n k units tail
  units_reading-narrow units long in_units =
      let none : first_wide k words ≡ length words = position_or_len_is (is_wide k) words (length words) [] (omega arith) (λ i below. narrow_at i below (in_units.narrow i (omega (arith, as_many)))) (λ more. absurd (omega arith)) in
      let same : map (word_units k) words ≡ units =
      ext_get_or (pos 0) (map (word_units k) words) units (length-map words (word_units k) ∙ sym (long ∙ as_many))
      (λ i below. let inside : i < length words = omega (arith, length-map words (word_units k)) in get_or-map (word_units k) words i [] (pos 0) inside ∙ sym (in_units.each i (omega (arith, as_many)) ∙ at i inside)) in
      ap units_with (is_not_less _ _ (omega (arith, none))) ∙ ap (λ (l : List ℤ). entries_reading n k l tail) same

  pub units_reading-wide : (place : ℕ) → IsFirstWide k digits decimals place → units_reading n k words tail ≡ Err (TooWide place)
  units_reading-wide place first =
      let inside : place < length words = omega (arith, first.within, as_many) in
      let found : first_wide k words ≡ place = position_or_len_is (is_wide k) words place [] (omega arith) (λ i below. narrow_at i (omega arith) (first.before i below)) (λ _. is_less _ _ (omega (arith, first.wide, ap nat_abs (at place inside)))) in
      ap units_with (is_less _ _ (omega (arith, found))) ∙ ap (λ (p : ℕ). Err (TooWide p)) found

  -- without decimals the digits are the units
  pub units_reading-whole : k ≡ 0 → units_reading n k words tail ≡ entries_reading n k digits tail
  units_reading-whole none =
      units_reading-narrow digits refl (subst (λ (m : ℕ). AreUnits m digits decimals digits (length digits)) (sym none) (units-whole digits decimals (λ i below. are.narrow i (pos 0) below)))
