-- The numbers of lines as they are put together, and lines that are short enough.
use Rattle.std.proofs.Common.{◌≡◌, ℕ, ◌+◌, ◌^◌, ◌<◌, ◌≤◌, true, List, [], ◌∷◌, ◌++◌, length, map, take, get_or, suc, ℤ, pos, refl, sym, ◌∙◌, ap, subst, arith, append_assoc}
use Rattle.std.specs.Prelude.{All, AllPairs}
use Rattle.std.specs.List.{flat_map}
use Rattle.std.proofs.lemmas.Bool.{and_from, lt-ltb, le-leb}
use Rattle.std.proofs.lemmas.Grind.{flat_map-append}
use Rattle.std.proofs.lemmas.List.{append-nil, get_or-map, take_more, length-map}
use Rattle.std.proofs.lemmas.List.Elements.{All-push, All-map}
use Rattle.lop_core.specs.declared.records.NumberedTerm.{NumberedTerm}
use Rattle.lop_core.specs.Records.{NodeRecord, IsNodeRecord}
use Rattle.lop_certtext.specs.Line.{CertLine, is_row, line_text}
use Rattle.lop_cuts.specs.declared.kind.Cycle.{Cycle}
use Rattle.lop_certtext.specs.CutLine.{cycle_numbers, IsShapedCycle}
use Rattle.lop_certtext.specs.RecordLine.{CutTerm, term_numbers, are_rising, record_line}
use Rattle.lop_certtext.specs.Tree.{IsRecord}
use Rattle.lop_certtext.proofs.AcceptedText.{IsWritten, written, record_written}
use Rattle.lop_certwrite.specs.CoreTree.{cert_record_of}

-- what the elements of a list give, with one element more
pub flat_more : {X A : Type 0} (f : X → List A) (xs : List X) (i : ℕ) (d : X) → i < length xs → flat_map f (take (i + 1) xs) ≡ flat_map f (take i xs) ++ f (get_or xs i d)
flat_more {X} {A} f xs i d inside =
    ap (flat_map f) (take_more xs i d inside) ∙ (flat_map-append f (take i xs) (get_or xs i d ∷ []) ∙ ap (λ (l : List A). flat_map f (take i xs) ++ l) (append-nil (f (get_or xs i d))))

-- a term as a certificate has it
abbrev pub numbered : NumberedTerm → CutTerm
numbered t = record { cut = t.cut + 1; multiplier = t.multiplier }

abbrev some_term : NumberedTerm
some_term = record { cut = 0; multiplier = 0 }

-- one more term
pub term_more : (r : NodeRecord) (head old mid new : List ℤ) (i cut multiplier : ℕ) (x y : ℤ) → old ≡ head ++ flat_map term_numbers (take i (cert_record_of r).terms) → mid ≡ old ++ x ∷ [] → new ≡ mid ++ y ∷ []
    → x ≡ pos (cut + 1) → y ≡ pos multiplier → ((d : NumberedTerm) → get_or r.terms i d ≡ record { cut = cut; multiplier = multiplier }) → i < length r.terms
    → new ≡ head ++ flat_map term_numbers (take (i + 1) (cert_record_of r).terms)
term_more r head old mid new i cut multiplier x y e f g ex ey read inside =
    let ts = (cert_record_of r).terms in
    let longer : i < length (map numbered r.terms) = omega (arith, length-map r.terms numbered) in
    let here : get_or (map numbered r.terms) i (numbered some_term) ≡ record { cut = cut + 1; multiplier = multiplier } =
    get_or-map numbered r.terms i some_term (numbered some_term) inside ∙ ap numbered (read some_term) in
    let before = flat_map term_numbers (take i (map numbered r.terms)) in
    let more : flat_map term_numbers (take (i + 1) (map numbered r.terms)) ≡ before ++ pos (cut + 1) ∷ pos multiplier ∷ [] =
    flat_more term_numbers (map numbered r.terms) i (numbered some_term) longer ∙ ap (λ (t : CutTerm). before ++ term_numbers t) here in
    g ∙ ap (λ (l : List ℤ). l ++ y ∷ []) (f ∙ ap (λ (l : List ℤ). l ++ x ∷ []) e)
    ∙ append_assoc (head ++ before) (x ∷ []) (y ∷ [])
    ∙ append_assoc head before (x ∷ y ∷ [])
    ∙ ap (λ (z : ℤ). head ++ (before ++ z ∷ y ∷ [])) ex
    ∙ ap (λ (z : ℤ). head ++ (before ++ pos (cut + 1) ∷ z ∷ [])) ey
    ∙ ap (λ (l : List ℤ). head ++ l) (sym more)

-- ---- the conditions of a record

terms_rising : (count last : ℕ) (ts : List NumberedTerm) → ((k : ℕ) (d : NumberedTerm) → k < length ts → last ≤ (get_or ts k d).cut) → AllPairs (λ t u. t.cut < u.cut) ts → All (λ t. t.cut < count) ts → All (λ t. 1 ≤ t.multiplier) ts
    → are_rising last count (map (λ t. record { cut = t.cut + 1; multiplier = t.multiplier }) ts) ≡ true
terms_rising count last [] low rising listed positive = refl
terms_rising count last (t ∷ ts) low rising listed positive =
    let above : last ≤ t.cut = low 0 t (omega arith) in
    let within : t.cut < count = listed 0 t (omega arith) in
    let some : 1 ≤ t.multiplier = positive 0 t (omega arith) in
    and_from _ _ (and_from _ _ (and_from _ _ (lt-ltb last (t.cut + 1) (omega arith)) (le-leb (t.cut + 1) count (omega arith))) (lt-ltb 0 t.multiplier (omega arith)))
    (terms_rising count (t.cut + 1) ts (λ k d l. later k d l) (λ i j d l m. rising (suc i) (suc j) d (omega arith) (omega arith)) (λ k d l. listed (suc k) d (omega arith)) (λ k d l. positive (suc k) d (omega arith)))
  where
    later : (k : ℕ) (d : NumberedTerm) → k < length ts → t.cut + 1 ≤ (get_or ts k d).cut
    later k d l = let h : t.cut < (get_or ts k d).cut = rising 0 (suc k) d (omega arith) (omega arith) in omega arith

-- ---- cycles

pub cycle_more : (cs : List Cycle) (head old new : List ℤ) (i : ℕ) (d : Cycle) → old ≡ head ++ flat_map cycle_numbers (take i cs) → new ≡ old ++ cycle_numbers (get_or cs i d) → i < length cs
    → new ≡ head ++ flat_map cycle_numbers (take (i + 1) cs)
cycle_more cs head old new i d e g inside =
    g ∙ ap (λ (l : List ℤ). l ++ cycle_numbers (get_or cs i d)) e
    ∙ append_assoc head (flat_map cycle_numbers (take i cs)) (cycle_numbers (get_or cs i d))
    ∙ ap (λ (l : List ℤ). head ++ l) (sym (flat_more cycle_numbers cs i d inside))

pub shaped_more : (cs : List Cycle) (i : ℕ) (d : Cycle) → All IsShapedCycle (take i cs) → IsShapedCycle (get_or cs i d) → i < length cs → All IsShapedCycle (take (i + 1) cs)
shaped_more cs i d so_far own inside = subst (All IsShapedCycle) (sym (take_more cs i d inside)) (All-push IsShapedCycle (take i cs) (get_or cs i d) so_far own)

-- ---- lines that are short enough

-- a line of few numbers
pub short_line : (l : CertLine) → is_row l.word l.numbers ≡ true → length l.numbers ≤ 1000 → length (line_text l) < 131072
short_line l row few = (written l row few).short

module _ (count : ℕ) (r : NodeRecord) (h : IsNodeRecord count r) where
  pub record_rising : are_rising 0 count (cert_record_of r).terms ≡ true
  record_rising = terms_rising count 0 r.terms (λ k d l. omega arith) h.rising h.listed (λ k d l. (h.multipliers k d l).positive)

  pub record_small : All (λ t. t.multiplier < 2 ^ 63) (cert_record_of r).terms
  record_small = All-map (λ t. t.multiplier < 2 ^ 63) numbered r.terms (λ k d l. (h.multipliers k d l).within_limit)

  pub record_few : length (cert_record_of r).terms ≤ 4096
  record_few =
      let size : length (map numbered r.terms) ≡ length r.terms = length-map r.terms numbered in
      let bounded = h.bounded_count in
      omega arith

  -- a node's record is one of a certificate
  pub record_right : IsRecord count (cert_record_of r)
  record_right = record {
    positive = h.positive;
    within_limit = h.within_limit;
    few = record_few;
    rising = record_rising;
    multipliers = record_small;
  }

  -- its line may be written
  pub record_row : count ≤ 65536 → IsWritten (record_line (cert_record_of r))
  record_row few = record_written count (cert_record_of r) (omega arith) record_right
