-- Numbers as two lists: the digits of each without its point, and how many of them are decimals.
use Rattle.std.specs.Prelude.{◌≡◌, ℕ, ◌<◌, ◌≤◌, List, length, map, slice_index, slice_index_or, nat_abs, ℤ, pos}
use Rattle.std.specs.List.{All}
use Rattle.lop_lolib.specs.declared.number.TheConstants.{MAX_DECIMALS, MAX_NUMBER}
use Rattle.lop_lolib.specs.Number.{digits_of, decimal_count}
use Rattle.lop_lolib.specs.Units.{most_decimals, units_of}

-- the numbers of words, and the greatest number of decimals among them
pub record AreNumbers (words : List (List ℕ)) (digits : List ℤ) (decimals : List ℕ) (most : ℕ) : Type 0 where
  pub values : digits ≡ map digits_of words
  pub counts : decimals ≡ map decimal_count words
  pub greatest : most ≡ most_decimals words
  pub fine : most ≤ MAX_DECIMALS
  pub coarser : All (λ d. d ≤ most) decimals
  pub narrow : All (λ v. nat_abs v ≤ MAX_NUMBER) digits

-- the number at a place, in units of 10^-k
abbrev pub units_at : ℕ → List ℤ → List ℕ → ℕ → ℤ
units_at k digits decimals place = units_of k (slice_index_or digits place (pos 0)) (slice_index decimals place)

-- the first numbers are in units, none of which exceeds 10^18 in absolute value
pub record AreUnits (k : ℕ) (digits : List ℤ) (decimals : List ℕ) (units : List ℤ) (count : ℕ) : Type 0 where
  pub each : (i : ℕ) → i < count → slice_index_or units i (pos 0) ≡ units_at k digits decimals i
  pub narrow : (i : ℕ) → i < count → nat_abs (units_at k digits decimals i) ≤ MAX_NUMBER

-- the number at this place is the first that exceeds 10^18 in absolute value in units
pub record IsFirstWide (k : ℕ) (digits : List ℤ) (decimals : List ℕ) (place : ℕ) : Type 0 where
  pub within : place < length digits
  pub wide : MAX_NUMBER < nat_abs (units_at k digits decimals place)
  pub before : (i : ℕ) → i < place → nat_abs (units_at k digits decimals i) ≤ MAX_NUMBER
