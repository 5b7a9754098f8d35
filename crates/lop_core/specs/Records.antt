-- The records of the nodes: terms by the numbers of their cuts, which stand in one list.
use Rattle.std.specs.Prelude.{◌≡◌, ◌≢◌, ℕ, ◌+◌, ◌*◌, ◌<◌, ◌≤◌, List, [], ◌∷◌, ◌++◌, length, map, filter, slice_index_or, slice_set, sum, All, AllPairs, Bool, true, false, not, nat_le, ◌==◌, ◌&&◌, ◌||◌, min, IsPermutation}
use Rattle.std.specs.List.{list_any, list_all}
use Rattle.lop_cuts.specs.declared.kind.CutKind.{CutKind}
use Rattle.lop_cuts.specs.declared.kind.CutKind.TheVariants.{Dicycle}
use Rattle.lop_cuts.specs.contracts.kind.CutKindPartialEq.TheImpl.{ghosts as of_kind}
use Rattle.lop_cuts.specs.Kind.{IsCut}
use Rattle.lop_cuts.specs.Lagrangian.{Term}
use Rattle.lop_cuts.specs.declared.limits.TheConstants.{MAX_SCALE, MAX_TERMS}
use Rattle.lop_leaf.specs.Record.{ScaledTerms, IsMultiplier}
use Rattle.lop_core.specs.declared.records.NumberedTerm.{NumberedTerm}

-- the cut of a number; past the end a made-up one
abbrev pub cut_at : List CutKind → ℕ → CutKind
cut_at cuts number = slice_index_or cuts number (Dicycle (0 ∷ 0 ∷ 0 ∷ []))

-- a record as the core keeps it: a scale, and terms with the numbers of their cuts
pub record NodeRecord : Type 0 where
  pub scale : ℕ
  pub terms : List NumberedTerm

-- scale 1, and no term
abbrev pub empty_record : NodeRecord
empty_record = record { scale = 1; terms = [] }

-- the terms with their cuts looked up
abbrev pub terms_of : List CutKind → List NumberedTerm → List Term
terms_of cuts terms = map (λ t. record { cut = cut_at cuts t.cut; multiplier = t.multiplier }) terms

-- the record with its cuts looked up
abbrev pub scaled_of : List CutKind → NodeRecord → ScaledTerms
scaled_of cuts r = record { scale = r.scale; terms = terms_of cuts r.terms }

-- all records: the different cuts of their terms, in the order of their first use; how many terms were taken in; the record of each node, and its number; and the records by number
pub record RecordBook : Type 0 where
  pub cuts : List CutKind
  pub used : ℕ
  pub records : List NodeRecord
  pub numbers : List ℕ
  pub kept : List NodeRecord

-- the record of a node; past the end the empty one
abbrev pub record_at : List NodeRecord → ℕ → NodeRecord
record_at records node = slice_index_or records node empty_record

-- the number of a node's record; past the end 0
abbrev pub number_at : List ℕ → ℕ → ℕ
number_at numbers node = slice_index_or numbers node 0

-- a scale from 1 to 65,536, and at most 4,096 terms whose cut numbers rise and name cuts of the list
pub record IsNodeRecord (count : ℕ) (r : NodeRecord) : Type 0 where
  pub positive : 1 ≤ r.scale
  pub within_limit : r.scale ≤ MAX_SCALE
  pub bounded_count : length r.terms ≤ MAX_TERMS
  pub rising : AllPairs (λ t u. t.cut < u.cut) r.terms
  pub listed : All (λ t. t.cut < count) r.terms
  pub multipliers : All (λ t. IsMultiplier t.multiplier) r.terms

-- the cuts of the list are cuts and all differ
pub record AreDifferentCuts (cuts : List CutKind) : Type 0 where
  pub each : All IsCut cuts
  pub different : AllPairs (λ a b. a ≢ b) cuts

-- each record is one, over the list of cuts; each node's is that of its number; and all have no more terms than were taken in
pub record IsRecordBook (book : RecordBook) : Type 0 where
  pub cuts : AreDifferentCuts book.cuts
  pub each : All (IsNodeRecord (length book.cuts)) book.records
  pub every : All (IsNodeRecord (length book.cuts)) book.kept
  pub inside : All (λ k. k < length book.kept) book.numbers
  pub by_number : book.records ≡ map (record_at book.kept) book.numbers
  pub counted : sum (map (λ r. length r.terms) book.kept) ≤ book.used

-- nodes whose records have different numbers have no more terms than that together
abbrev pub HaveTermsWithin : RecordBook → ℕ → Type 0
HaveTermsWithin book room =
    (nodes : List ℕ) → All (λ i. i < length book.records) nodes → AllPairs (λ i j. number_at book.numbers i ≢ number_at book.numbers j) nodes
    → sum (map (λ i. length (record_at book.records i).terms) nodes) ≤ room

-- whether two cuts are the same
unfoldable pub same_cut : CutKind → CutKind → Bool
same_cut a b = of_kind.eq a b

-- whether the cut isn't in the list
abbrev pub is_new : List CutKind → CutKind → Bool
is_new cuts cut = not (list_any (λ c. same_cut c cut) cuts)

-- the cuts of the terms that aren't in the list, in turn
abbrev pub new_cuts : List CutKind → List Term → List CutKind
new_cuts cuts terms = map (λ t. t.cut) (filter (λ t. is_new cuts t.cut) terms)

-- for how many terms there is room under a budget of nodes
abbrev pub term_room : ℕ → ℕ
term_room budget = MAX_TERMS + min (1024 * budget) 67108864

-- for how many cuts there is room
abbrev pub cut_room : ℕ
cut_room = 65536

-- whether terms find room where there is room for so many: they are none, or they fit in the free room of terms, and their new cuts in the free room of cuts
abbrev pub finds_room : ℕ → RecordBook → List Term → Bool
finds_room room book terms =
    (length terms == 0) || (nat_le (book.used + length terms) room && nat_le (length book.cuts + length (new_cuts book.cuts terms)) cut_room)

-- the record has the scale and the terms of another, in the order of their cut numbers
pub record IsNumbered (cuts : List CutKind) (shown : ScaledTerms) (r : NodeRecord) : Type 0 where
  pub scale : r.scale ≡ shown.scale
  pub terms : IsPermutation shown.terms (terms_of cuts r.terms)
  pub rising : AllPairs (λ t u. t.cut < u.cut) r.terms

-- whether one of the terms has the cut and the multiplier
abbrev pub has_term : List CutKind → List NumberedTerm → Term → Bool
has_term cuts terms t = list_any (λ u. (u.multiplier == t.multiplier) && same_cut (cut_at cuts u.cut) t.cut) terms

-- whether the record has the scale and the terms, in whatever order
abbrev pub is_same : List CutKind → NodeRecord → ScaledTerms → Bool
is_same cuts r shown = (r.scale == shown.scale) && ((length r.terms == length shown.terms) && list_all (λ t. has_term cuts r.terms t) shown.terms)

-- whether the node has this record already
abbrev pub is_own : RecordBook → ℕ → ScaledTerms → Bool
is_own book node shown = is_same book.cuts (record_at book.records node) shown

-- a record was added at a node: the new cuts stand at the end of the list, the record gets the next number, and no other node's record changed
pub record IsAdded (old : RecordBook) (node : ℕ) (shown : ScaledTerms) (new : RecordBook) : Type 0 where
  pub cuts : new.cuts ≡ old.cuts ++ new_cuts old.cuts shown.terms
  pub used : new.used ≡ old.used + length shown.terms
  pub own : IsNumbered new.cuts shown (record_at new.records node)
  pub others : new.records ≡ slice_set old.records node (record_at new.records node)
  pub numbers : new.numbers ≡ slice_set old.numbers node (length old.kept)
  pub kept : new.kept ≡ old.kept ++ record_at new.records node ∷ []

-- the node's own record is kept where it is the same, and else one is added
abbrev pub IsTakenAs : Bool → RecordBook → ℕ → ScaledTerms → RecordBook → Type 0
IsTakenAs true old node shown new = IsNumbered old.cuts shown (record_at old.records node) × (new ≡ old)
IsTakenAs false old node shown new = IsAdded old node shown new

-- a record was taken in at a node
abbrev pub IsTakenIn : RecordBook → ℕ → ScaledTerms → RecordBook → Type 0
IsTakenIn old node shown new = IsTakenAs (is_own old node shown) old node shown new

-- it was taken in where it found room, and else all is as before
abbrev pub IsTakenOrKept : Bool → RecordBook → ℕ → ScaledTerms → RecordBook → Type 0
IsTakenOrKept true old node shown new = IsTakenIn old node shown new
IsTakenOrKept false old node shown new = new ≡ old

-- two more nodes have the node's record and its number
abbrev pub with_children : RecordBook → ℕ → RecordBook
with_children book node = record book {
  records = book.records ++ record_at book.records node ∷ record_at book.records node ∷ [];
  numbers = book.numbers ++ number_at book.numbers node ∷ number_at book.numbers node ∷ [];
}
