-- The bound of a true certificate is a bound.
use Rattle.std.proofs.Common.{◌≡◌, ◌≢◌, ◌⊎◌, ℕ, ◌-◌, ◌<◌, ◌≤◌, true, ◌&&◌, List, [], ◌∷◌, ◌++◌, length, get_or, inl, inr, ℤ, ◌≤ℤ◌, arith}
use Rattle.std.specs.Prelude.{All, nat_lt, nat_le}
use Rattle.std.proofs.lemmas.Bool.{cases_lt, and_parts, ltb-true, leb-true}
use Rattle.std.proofs.lemmas.List.Elements.{All-nil, All-cons, All-map, All-get_or}
use Rattle.lop_model.specs.declared.pair.Pair.{Pair}
use Rattle.lop_model.specs.Order.{IsOrder, StandsBefore, place_of}
use Rattle.lop_model.specs.Matrix.{Matrix, IsUpperBound, weight}
use Rattle.lop_model.specs.Fixings.{IsLinearExtension}
use Rattle.lop_model.proofs.BoundLemmas.{IsLinearExtension-none}
use Rattle.lop_model.proofs.OrderLemmas.{places_apart}
use Rattle.lop_cuts.specs.declared.kind.CutKind.{CutKind}
use Rattle.lop_cuts.specs.declared.kind.CutKind.TheVariants as kind
use Rattle.lop_cuts.specs.Kind.{IsCut}
use Rattle.lop_model.specs.Closing.{closed}
use Rattle.lop_model.proofs.FixingsLemmas.{IsLinearExtension-closure}
use Rattle.lop_model.proofs.Closings.{IsClosure-closed}
use Rattle.lop_cuts.specs.Certifying.{CertifiesUnder}
use Rattle.lop_cuts.proofs.LagrangianLemmas.{AreValid-AreCuts, weight-le-certified}
use Rattle.lop_certtext.specs.RecordLine.{CutTerm, CertRecord, numbered_record, are_rising, cut_at, terms_in}
use Rattle.lop_certtext.specs.Tree.{Tree, leaf, split, IsRecord, IsLeaf, IsTree}
use Rattle.lop_model.specs.Reversed.{reversed}
use Rattle.lop_certtext.specs.Certificate.{Certificate, IsTreeCertificate}
use Rattle.lop_certtext.proofs.PathLemmas.{extends_more}

-- the number of a cut is one of 1 to count
abbrev pub IsNumbered : ℕ → CutTerm → Type 0
IsNumbered count t = (0 < t.cut) × (t.cut ≤ count) × (0 < t.multiplier)

-- terms by rising cut numbers have cuts
pub numbered-rising : (last count : ℕ) (ts : List CutTerm) → are_rising last count ts ≡ true → All (IsNumbered count) ts
numbered-rising last count [] e = All-nil (IsNumbered count)
numbered-rising last count (t ∷ ts) e =
    let third = and_parts (nat_lt last t.cut && nat_le t.cut count && nat_lt 0 t.multiplier) (are_rising t.cut count ts) e in
    let second = and_parts (nat_lt last t.cut && nat_le t.cut count) (nat_lt 0 t.multiplier) third.0 in
    let first = and_parts (nat_lt last t.cut) (nat_le t.cut count) second.0 in
    let above : last < t.cut = ltb-true last t.cut first.0 in
    All-cons (IsNumbered count) t ts (omega arith, leb-true t.cut count first.1, ltb-true 0 t.multiplier second.1) (numbered-rising t.cut count ts third.1)

pub AreCuts-terms_in : (cuts : List CutKind) (ts : List CutTerm) → All IsCut cuts → All (IsNumbered (length cuts)) ts → All (λ t. IsCut t.cut) (terms_in cuts ts)
AreCuts-terms_in cuts ts right numbered =
    All-map (λ t. IsCut t.cut) (λ (t : CutTerm). record { cut = cut_at cuts t.cut; multiplier = t.multiplier }) ts
    (λ k d l. let n = numbered k d l in All-get_or IsCut cuts ((get_or ts k d).cut - 1) (kind.Dicycle []) (omega (arith, n.0, n.1)) right)

-- of two different objects one stands before the other
pub one_way : (n : ℕ) (s : List ℕ) (a b : ℕ) → IsOrder n s → a < n → b < n → a ≢ b → StandsBefore s a b ⊎ StandsBefore s b a
one_way n s a b o la lb ne =
    let apart : place_of s a ≢ place_of s b = places_apart n s a b o la lb ne in
    elim (cases_lt (place_of s a) (place_of s b)) [ inl lt ↦ inl lt | inr ge ↦ inr (omega (arith, apart)) ]

-- terms that certify a bound bound the orders that keep the path
pub certified_bounds : (C : Matrix) (cuts : List CutKind) (b : ℤ) (path : List Pair) (l : CertRecord) → All IsCut cuts → are_rising 0 (length cuts) l.terms ≡ true → CertifiesUnder C path l.scale (terms_in cuts l.terms) b → (s : List ℕ) → IsOrder C.size s → IsLinearExtension s path → weight C s ≤ℤ b
certified_bounds C cuts b path l right rising certified s o x =
    let terms = terms_in cuts l.terms in
    weight-le-certified C (closed path) l.scale terms b s o (IsLinearExtension-closure s path (closed path) (IsClosure-closed path) x)
    (AreValid-AreCuts C.size terms (AreCuts-terms_in cuts l.terms right (numbered-rising 0 (length cuts) l.terms rising))) (certified.each (closed path) (IsClosure-closed path))

module _ (C : Matrix) (cuts : List CutKind) (records : List CertRecord) (b : ℤ) (right : All IsCut cuts) (are : All (IsRecord (length cuts)) records) where
  -- so does a leaf
  pub leaf_bounds : (path : List Pair) (number : ℕ) → IsLeaf C cuts records b path number → (s : List ℕ) → IsOrder C.size s → IsLinearExtension s path → weight C s ≤ℤ b
  leaf_bounds path number is =
      let first : 1 ≤ number = is.from_one in
      let last : number ≤ length records = is.within in
      let r = All-get_or (IsRecord (length cuts)) records (number - 1) (record { scale = 1; terms = [] }) (omega arith) are in
      certified_bounds C cuts b path (numbered_record records number) right r.rising is.certified

  -- a tree bounds the orders that keep its path
  pub tree_bounds : (path : List Pair) (tree : Tree) → IsTree C cuts records b path tree → (s : List ℕ) → IsOrder C.size s → IsLinearExtension s path → weight C s ≤ℤ b
  tree_bounds path (leaf number) is s o x = leaf_bounds path number is s o x
  tree_bounds path (split p first second) is s o x =
      elim (one_way C.size s p.before p.after o is.0.first is.0.second is.0.differ) [
        | inl before ↦ tree_bounds (path ++ p ∷ []) first is.1 s o (extends_more s path p x before)
        | inr after ↦ tree_bounds (path ++ reversed p ∷ []) second is.2 s o (extends_more s path (reversed p) x after)
      ]

-- so no order weighs more than the bound of a true certificate
pub IsUpperBound-certificate : (C : Matrix) (c : Certificate) → IsTreeCertificate C c → IsUpperBound C c.bound
IsUpperBound-certificate C c h = record { each = λ s o. tree_bounds C c.cuts c.records c.bound h.cuts_are h.records_are [] c.tree h.tree_is s o (IsLinearExtension-none s) }
