-- The line of a record: a scale, and multipliers of cuts by their numbers. The line of a leaf has or names one.
use Rattle.std.specs.Prelude.{ℕ, ◌+◌, ◌-◌, ◌*◌, Bool, true, ◌&&◌, ◌==◌, nat_lt, nat_le, List, [], ◌∷◌, length, map, slice_index_or, ℤ, pos, nat_abs, Option, None, Some, if◌then◌else◌}
use Rattle.std.specs.List.{flat_map}
use Rattle.lop_cuts.specs.declared.kind.CutKind.{CutKind}
use Rattle.lop_cuts.specs.declared.kind.CutKind.TheVariants as kind
use Rattle.lop_cuts.specs.Lagrangian.{Term}
use Rattle.lop_cuts.specs.declared.limits.TheConstants.{MAX_SCALE, MAX_TERMS}
use Rattle.lop_certtext.specs.declared.limits.TheConstants.{MAX_TOTAL_TERMS}
use Rattle.lop_certtext.specs.declared.version.CertVersion.{CertVersion}
use Rattle.lop_certtext.specs.declared.version.CertVersion.TheVariants.{One, Two}
use Rattle.lop_certtext.specs.declared.word.CertWord.TheVariants.{RecordLine, Leaf}
use Rattle.lop_certtext.specs.Line.{CertLine}

-- the number of a cut, from 1, and its multiplier
pub record CutTerm : Type 0 where
  pub cut : ℕ
  pub multiplier : ℕ

-- a scale and terms
pub record CertRecord : Type 0 where
  pub scale : ℕ
  pub terms : List CutTerm

-- the record with a number, from 1
abbrev pub numbered_record : List CertRecord → ℕ → CertRecord
numbered_record records number = slice_index_or records (number - 1) (record { scale = 1; terms = [] })

-- how many terms records have together
abbrev pub term_count : List CertRecord → ℕ
term_count records = length (flat_map (λ r. r.terms) records)

-- ---- written

abbrev pub term_numbers : CutTerm → List ℤ
term_numbers t = pos t.cut ∷ pos t.multiplier ∷ []

-- the scale, how many terms there are, and the terms
abbrev pub record_numbers : CertRecord → List ℤ
record_numbers r = pos r.scale ∷ pos (length r.terms) ∷ flat_map term_numbers r.terms

abbrev pub record_line : CertRecord → CertLine
record_line r = record { word = RecordLine; numbers = record_numbers r }

-- the numbers of the line of a leaf: its record, or the number of its record
abbrev pub leaf_numbers : CertVersion → List CertRecord → ℕ → List ℤ
leaf_numbers One records number = record_numbers (numbered_record records number)
leaf_numbers Two records number = pos number ∷ []

-- the line of a leaf, by the number of its record
abbrev pub leaf_line : CertVersion → List CertRecord → ℕ → CertLine
leaf_line version records number = record { word = Leaf; numbers = leaf_numbers version records number }

-- ---- read

-- numbers as terms, two by two
abbrev pub terms_of : List ℤ → List CutTerm
terms_of (r ∷ m ∷ ns) = record { cut = nat_abs r; multiplier = nat_abs m } ∷ terms_of ns
terms_of ns = []

-- the numbers of the cuts rise from above `last` to at most `count`, and no multiplier is 0
abbrev pub are_rising : ℕ → ℕ → List CutTerm → Bool
are_rising last count [] = true
are_rising last count (t ∷ ts) = nat_lt last t.cut && nat_le t.cut count && nat_lt 0 t.multiplier && are_rising t.cut count ts

-- a scale from 1 to 65,536, and terms of as many cuts as are told, at most 4,096
abbrev pub is_record_row : ℕ → ℕ → ℕ → List ℤ → Bool
is_record_row count scale told ns =
    nat_le 1 scale && nat_le scale MAX_SCALE && nat_le told MAX_TERMS && length ns == 2 * told && are_rising 0 count (terms_of ns)

-- the record that numbers spell, where so many cuts are there
abbrev pub record_of : ℕ → List ℤ → Option CertRecord
record_of count (s ∷ t ∷ ns) =
    if is_record_row count (nat_abs s) (nat_abs t) ns then Some (record { scale = nat_abs s; terms = terms_of ns }) else None
record_of count ns = None

-- the record, if with those before it there are not too many terms
abbrev pub if_within : List CertRecord → Option CertRecord → Option CertRecord
if_within before None = None
if_within before (Some r) = if nat_le (term_count before + length r.terms) MAX_TOTAL_TERMS then Some r else None

-- the record of the list that numbers name: one number, from 1 to as many as there are
abbrev pub named_of : List CertRecord → List ℤ → Option CertRecord
named_of records (i ∷ []) = if nat_le 1 (nat_abs i) && nat_le (nat_abs i) (length records) then Some (numbered_record records (nat_abs i)) else None
named_of records ns = None

-- the record of a leaf by the numbers of its line, where so many cuts and these records are there
abbrev pub leaf_of : CertVersion → ℕ → List CertRecord → List ℤ → Option CertRecord
leaf_of One count records ns = record_of count ns
leaf_of Two count records ns = named_of records ns

-- ---- the cuts of terms

-- the cut with a number
abbrev pub cut_at : List CutKind → ℕ → CutKind
cut_at cuts number = slice_index_or cuts (number - 1) (kind.Dicycle [])

-- terms with their cuts
abbrev pub terms_in : List CutKind → List CutTerm → List Term
terms_in cuts terms = map (λ t. record { cut = cut_at cuts t.cut; multiplier = t.multiplier }) terms
