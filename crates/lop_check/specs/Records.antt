-- The records that leaves name, and the numbers that spell a record.
use Rattle.std.specs.Prelude.{◌≡◌, ◌≤◌, ◌<◌, ◌+◌, ◌-◌, ◌*◌, ◌&&◌, nat_lt, nat_le, slice_index_or, ℕ, true, pos, nat_abs, Some, Bool, List, [], length, take, drop, map, All, ℤ}
use Rattle.lop_cuts.specs.declared.limits.TheConstants.{MAX_SCALE, MAX_TERMS}
use Rattle.lop_certtext.specs.declared.limits.TheConstants.{MAX_TOTAL_TERMS}
use Rattle.lop_certtext.specs.RecordLine.{CertRecord, are_rising, record_of, term_count, terms_of}
use Rattle.lop_check.specs.declared.record_list.Span.{Span}

-- ---- the numbers of terms

-- a term's cut comes after `last` and is one of `count`, and its multiplier isn't 0
abbrev pub follows : List ℤ → ℕ → ℕ → ℕ → Bool
follows ns i last count =
    nat_lt last (nat_abs (slice_index_or ns (2 * i) (pos 0))) && nat_le (nat_abs (slice_index_or ns (2 * i) (pos 0))) count && nat_lt 0 (nat_abs (slice_index_or ns (2 * i + 1) (pos 0)))

-- the numbers are terms, at most 4,096, by rising numbers of so many cuts
pub record AreTerms (count : ℕ) (ns : List ℤ) : Type 0 where
  pub told : ℕ
  pub few : told ≤ MAX_TERMS
  pub even : length ns ≡ 2 * told
  pub rising : are_rising 0 count (terms_of ns) ≡ true

-- the numbers of a line are a record with this scale and the terms that these numbers are
pub record IsRow (count : ℕ) (ns : List ℤ) (scale : ℕ) (terms : List ℤ) : Type 0 where
  pub read : record_of count ns ≡ Some (record { scale = scale; terms = terms_of terms })
  pub within_limit : scale ≤ MAX_SCALE
  pub are_terms : AreTerms count terms

-- ---- the list

-- the record whose terms' numbers lie at this span
abbrev pub record_in : List ℤ → Span → CertRecord
record_in numbers span = record { scale = span.scale; terms = terms_of (take (span.end - span.start) (drop span.start numbers)) }

-- a span lies within the first n numbers, and has two for each term
pub record IsWithin (n : ℕ) (span : Span) : Type 0 where
  pub terms : ℕ
  pub even : span.end ≡ span.start + 2 * terms
  pub end : span.end ≤ n

-- all spans lie within the numbers, and this is how many terms they have together
pub record AreSpans (numbers : List ℤ) (spans : List Span) (terms : ℕ) : Type 0 where
  pub within : All (IsWithin (length numbers)) spans
  pub terms_sum : terms ≡ term_count (map (record_in numbers) spans)
  pub few : terms ≤ MAX_TOTAL_TERMS

-- the record at a place, from 0
abbrev pub record_at : List CertRecord → ℕ → CertRecord
record_at records place = slice_index_or records place (record { scale = 1; terms = [] })

-- whether a record has the number
abbrev pub is_number : List CertRecord → ℕ → Bool
is_number records number = nat_le 1 number && nat_le number (length records)

-- it stands at this place
pub record IsPlace (records : List CertRecord) (number place : ℕ) : Type 0 where
  pub is_one : is_number records number ≡ true
  pub place_is : place ≡ number - 1
  pub within : place < length records

-- a scale within its limit and terms, at most 4,096, by rising numbers of so many cuts
pub record IsRecordOver (count : ℕ) (r : CertRecord) : Type 0 where
  pub within_limit : r.scale ≤ MAX_SCALE
  pub few : length r.terms ≤ MAX_TERMS
  pub rising : are_rising 0 count r.terms ≡ true

abbrev pub AreRecords : ℕ → List CertRecord → Type 0
AreRecords count records = All (IsRecordOver count) records
