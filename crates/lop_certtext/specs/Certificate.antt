-- A certificate: an order with its weight, a bound, and why no order weighs more.
use Rattle.std.specs.Prelude.{◌≡◌, ℕ, ◌<◌, ◌≤◌, ◌^◌, List, [], ◌∷◌, ◌++◌, length, map, codes, All, ℤ, pos, nat_abs}
use Rattle.std.specs.List.{flat_map, range_with_len}
use Rattle.lop_model.specs.Order.{IsOrder}
use Rattle.lop_model.specs.Matrix.{Matrix, weight}
use Rattle.lop_cuts.specs.declared.kind.CutKind.{CutKind}
use Rattle.lop_cuts.specs.Kind.{IsCut, FitsCut}
use Rattle.lop_certtext.specs.declared.limits.TheConstants.{MAX_CUTS, MAX_RECORDS, MAX_TOTAL_TERMS}
use Rattle.lop_certtext.specs.declared.version.CertVersion.{CertVersion}
use Rattle.lop_certtext.specs.declared.version.CertVersion.TheVariants.{One, Two}
use Rattle.lop_certtext.specs.declared.word.CertWord.TheVariants.{Version, Objects, OrderLine, Value, Bound, Cuts, RecordsLine, End}
use Rattle.lop_certtext.specs.Line.{CertLine, line_text}
use Rattle.lop_certtext.specs.CutLine.{numbers_of_objects, cut_line, IsShapedCut}
use Rattle.lop_certtext.specs.RecordLine.{CertRecord, term_count, record_line, leaf_line}
use Rattle.lop_certtext.specs.Tree.{Tree, named_by, tree_lines, IsRecord, IsTree}

-- an order, what it weighs, a bound, cuts, records, and a tree whose leaves name the records that show the bound
pub record Certificate : Type 0 where
  pub order : List ℕ
  pub value : ℤ
  pub bound : ℤ
  pub cuts : List CutKind
  pub records : List CertRecord
  pub tree : Tree

-- ---- its texts

abbrev pub version_number : CertVersion → ℤ
version_number One = pos 1
version_number Two = pos 2

-- how many records there are, and the records, where they have lines of their own
abbrev pub record_lines : CertVersion → List CertRecord → List CertLine
record_lines One records = []
record_lines Two records = record { word = RecordsLine; numbers = pos (length records) ∷ [] } ∷ map record_line records

-- its lines in a version; objects count from 1
abbrev pub certificate_lines : CertVersion → Certificate → List CertLine
certificate_lines version c =
    record { word = Version; numbers = version_number version ∷ [] }
    ∷ record { word = Objects; numbers = pos (length c.order) ∷ [] }
    ∷ record { word = OrderLine; numbers = numbers_of_objects c.order }
    ∷ record { word = Value; numbers = c.value ∷ [] }
    ∷ record { word = Bound; numbers = c.bound ∷ [] }
    ∷ record { word = Cuts; numbers = pos (length c.cuts) ∷ [] }
    ∷ map cut_line c.cuts ++ (record_lines version c.records ++ (tree_lines (leaf_line version c.records) c.tree ++ record { word = End; numbers = [] } ∷ []))

-- lines as a text: each in its one spelling, with its LF
abbrev pub text_of : List CertLine → List ℕ
text_of ls = flat_map (λ l. line_text l ++ codes "\n") ls

-- the one text of a certificate in a version
abbrev pub certificate_text : CertVersion → Certificate → List ℕ
certificate_text version c = text_of (certificate_lines version c)

-- whether it has a text in a version
abbrev pub HasText : CertVersion → Certificate → Type 0
-- its leaves, in preorder, name the first record, the second, and so on, each once
HasText One c = named_by c.tree ≡ range_with_len 1 (length c.records)
-- it has at most 1,048,576 records, and these at most 67,112,960 terms in all
HasText Two c = (length c.records ≤ MAX_RECORDS) × (term_count c.records ≤ MAX_TOTAL_TERMS)

-- ---- when it is true

-- the order is one of C's objects and weighs the value, the cuts and the records are right, and the tree shows that no order weighs more than the bound
pub record IsTreeCertificate (C : Matrix) (c : Certificate) : Type 0 where
  pub order_is : IsOrder C.size c.order
  pub value_is : c.value ≡ weight C c.order
  pub value_fits : nat_abs c.value < 2 ^ 63
  pub bound_fits : nat_abs c.bound < 2 ^ 63
  pub few_cuts : length c.cuts ≤ MAX_CUTS
  pub cuts_are : All IsCut c.cuts
  pub cuts_fit : All (FitsCut C.size) c.cuts
  pub cuts_shaped : All IsShapedCut c.cuts
  pub records_are : All (IsRecord (length c.cuts)) c.records
  pub tree_is : IsTree C c.cuts c.records c.bound [] c.tree

-- a text of at most 2^40 bytes is one of the two texts of a true certificate with this value and bound
pub record IsCertificateText (C : Matrix) (bytes : List ℕ) (value bound : ℤ) : Type 0 where
  pub certificate : Certificate
  pub holds : IsTreeCertificate C certificate
  pub version : CertVersion
  pub has_text : HasText version certificate
  pub text : bytes ≡ certificate_text version certificate
  pub value_is : certificate.value ≡ value
  pub bound_is : certificate.bound ≡ bound
  pub fits : length bytes ≤ 2 ^ 40
