-- The tree of a certificate, its lines, and what makes it true.
use Rattle.std.specs.Prelude.{◌≡◌, ℕ, ◌+◌, ◌^◌, ◌<◌, ◌≤◌, true, List, [], ◌∷◌, ◌++◌, length, All, ℤ}
use Rattle.lop_model.specs.declared.pair.Pair.{Pair}
use Rattle.lop_model.specs.Matrix.{Matrix}
use Rattle.lop_model.specs.Reversed.{reversed}
use Rattle.lop_model.specs.Fixings.{IsUndecided}
use Rattle.lop_cuts.specs.declared.kind.CutKind.{CutKind}
use Rattle.lop_cuts.specs.Certifying.{CertifiesUnder}
use Rattle.lop_cuts.specs.declared.limits.TheConstants.{MAX_SCALE, MAX_TERMS}
use Rattle.lop_certtext.specs.declared.word.CertWord.TheVariants.{SplitLine}
use Rattle.lop_certtext.specs.Line.{CertLine}
use Rattle.lop_certtext.specs.CutLine.{numbers_of_objects}
use Rattle.lop_certtext.specs.RecordLine.{CertRecord, numbered_record, are_rising, terms_in}

-- each inner node has a pair and two children: the orders that keep the pair, and those that keep its reverse; each leaf names a record by its number, from 1
pub data Tree : Type 0 where
  leaf : ℕ → Tree
  split : Pair → Tree → Tree → Tree

-- how many nodes it has
abbrev pub tree_size : Tree → ℕ
tree_size (leaf number) = 1
tree_size (split p first second) = 1 + (tree_size first + tree_size second)

-- the numbers that its leaves name, in preorder
abbrev pub named_by : Tree → List ℕ
named_by (leaf number) = number ∷ []
named_by (split p first second) = named_by first ++ named_by second

abbrev pub split_line : Pair → CertLine
split_line p = record { word = SplitLine; numbers = numbers_of_objects (p.before ∷ p.after ∷ []) }

-- a node's own line, then those of its first child, then those of its second; the line of a leaf goes by the number of its record
abbrev pub tree_lines : (ℕ → CertLine) → Tree → List CertLine
tree_lines line (leaf number) = line number ∷ []
tree_lines line (split p first second) = split_line p ∷ (tree_lines line first ++ tree_lines line second)

-- a record's scale is 1 to 65,536; it has at most 4,096 terms, by rising numbers of so many cuts, with multipliers from 1 to 2^63 - 1
pub record IsRecord (count : ℕ) (r : CertRecord) : Type 0 where
  pub positive : 1 ≤ r.scale
  pub within_limit : r.scale ≤ MAX_SCALE
  pub few : length r.terms ≤ MAX_TERMS
  pub rising : are_rising 0 count r.terms ≡ true
  pub multipliers : All (λ t. t.multiplier < 2 ^ 63) r.terms

-- a leaf names a record of the list, and this certifies the bound under the path
pub record IsLeaf (C : Matrix) (cuts : List CutKind) (records : List CertRecord) (bound : ℤ) (path : List Pair) (number : ℕ) : Type 0 where
  pub from_one : 1 ≤ number
  pub within : number ≤ length records
  pub certified : CertifiesUnder C path (numbered_record records number).scale (terms_in cuts (numbered_record records number).terms) bound

-- each inner node's pair is undecided under the path to it, and each leaf is right under its path
abbrev pub IsTree : Matrix → List CutKind → List CertRecord → ℤ → List Pair → Tree → Type 0
IsTree C cuts records bound path (leaf number) = IsLeaf C cuts records bound path number
IsTree C cuts records bound path (split p first second) =
    IsUndecided C.size path p.before p.after
    × IsTree C cuts records bound (path ++ p ∷ []) first
    × IsTree C cuts records bound (path ++ reversed p ∷ []) second
