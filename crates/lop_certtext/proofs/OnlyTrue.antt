-- Nothing is accepted but the text of a certificate that is true.
use Rattle.std.proofs.Common.{◌≡◌, ℕ, ◌+◌, ◌^◌, ◌<◌, ◌≤◌, zero, suc, Bool, true, false, ◌&&◌, ◌==◌, cond, List, [], ◌∷◌, ◌++◌, length, map, codes, nat_lt, nat_le, ℤ, pos, negsuc, nat_abs, Option, None, Some, refl, sym, ◌∙◌, ap, subst, arith}
use Rattle.std.specs.Prelude.{int_lt, int_le, ◌<ℤ◌, All}
use Rattle.std.specs.List.{slice_split, join_with_byte}
use Rattle.std.proofs.lemmas.Bool.{and_parts, false≢true, ltb-true, ltb-false, leb-true, eqb-true}
use Rattle.std.proofs.lemmas.Int.{ints}
use Rattle.std.proofs.lemmas.List.{append_assoc, append-nil, map-append}
use Rattle.std.proofs.lemmas.List.Elements.{All-nil, All-cons}
use Rattle.std.proofs.lemmas.List.Splits.{join_with_byte-slice_split, length-slice_split}
use Rattle.lop_model.specs.declared.pair.Pair.{Pair}
use Rattle.lop_model.specs.Order.{IsOrder}
use Rattle.lop_model.specs.Matrix.{Matrix, weight}
use Rattle.lop_cuts.specs.declared.kind.CutKind.{CutKind}
use Rattle.lop_cuts.specs.Kind.{IsCut, FitsCut}
use Rattle.lop_certtext.specs.declared.limits.TheConstants.{MAX_CUTS, MAX_RECORDS, MAX_TOTAL_TERMS}
use Rattle.lop_certtext.specs.declared.version.CertVersion.{CertVersion}
use Rattle.lop_certtext.specs.declared.version.CertVersion.TheVariants.{One, Two}
use Rattle.lop_certtext.specs.declared.word.CertWord.{CertWord}
use Rattle.lop_certtext.specs.declared.word.CertWord.TheVariants.{Version, Objects, OrderLine, Value, Bound, Cuts, RecordsLine, RecordLine, SplitLine, Leaf, End}
use Rattle.lop_certtext.specs.declared.reason.Reason.{Reason}
use Rattle.lop_certtext.specs.declared.reason.Reason.TheVariants as reason
use Rattle.lop_certtext.specs.Line.{CertLine, is_at_most, is_count, is_signed, is_row, line_text, line_reading, first_word, cert_words, numbers_of, row_of, pieces_reading}
use Rattle.lop_certtext.specs.Reading.{pieces}
use Rattle.lop_model.specs.Closing.{AreClosures, closed}
use Rattle.lop_model.proofs.Closings.{AreClosures-closed}
use Rattle.lop_cuts.proofs.CertifiedPaths.{CertifiesUnder-one}
use Rattle.lop_certtext.specs.CutLine.{numbers_of_objects, objects_of, cut_line, cut_of, IsShapedCut}
use Rattle.lop_certtext.specs.RecordLine.{CertRecord, term_count, record_line, leaf_line, record_of, if_within, leaf_of, terms_in}
use Rattle.lop_certtext.specs.Tree.{Tree, split_line, tree_lines, IsRecord, IsTree}
use Rattle.lop_model.specs.Reversed.{reversed}
use Rattle.lop_certtext.specs.Certificate.{Certificate, version_number, record_lines, certificate_lines, text_of, HasText, IsTreeCertificate, IsCertificateText}
use Rattle.lop_certtext.specs.Answer.{TextLine, ended_line, unended_line, long_line, long_file, limited, lines_from, text_lines, CheckAnswer, accepted, rejected, with_line, spelled, expect, is_version, is_objects, is_order_line, is_value, is_bound, is_cuts, is_records_line, is_record_line, is_end, only_number, version_of, is_order, version_step, objects_step, order_step, value_step, bound_step, cuts_step, cuts_left_step, records_step, records_left_step, with_record, is_cut_word, with_cut, cut_step, tree_step, node_step, split_step, leaf_step, leaf_value, leaf_limit, split_of, end_step, tail_step, IsCheckAnswer}
use Rattle.lop_certtext.proofs.Lines.{line_text-line_reading}
use Rattle.lop_certtext.proofs.CutText.{count_is, line-cut_of}
use Rattle.lop_certtext.proofs.ObjectNumbers.{IsOrder-is_order}
use Rattle.lop_certtext.proofs.NodeText.{row-record_of, line-split_of}
use Rattle.lop_certtext.proofs.LeafRows.{RowTree, row_leaf, row_split, row_lines, IsRowTree, named_tree, numbered_tree}
use Rattle.lop_certtext.proofs.AcceptedText.{ended, length-text_of, lines_from-more, version_line, objects_line, order_line, value_line, bound_line, cuts_line, records_line, term_count-more, end_line}

-- ---- rows

pub row-pieces_reading : (ps : List (List ℕ)) (l : CertLine) → pieces_reading ps ≡ Some l → is_row l.word l.numbers ≡ true
row-pieces_reading [] l e = absurd (cc)
row-pieces_reading (p ∷ ps) l e = by (first_word cert_words p) (numbers_of ps) e
  where
    row : (w : CertWord) (ns : List ℤ) (t : Bool) → is_row w ns ≡ t → cond {A = Option CertLine} t (Some (record { word = w; numbers = ns })) None ≡ Some l → is_row l.word l.numbers ≡ true
    row w ns false is e = absurd (cc)
    row w ns true is e =
        let line : CertLine = record { word = w; numbers = ns } in
        let same : line ≡ l = cc in
        subst (λ (x : CertLine). is_row x.word x.numbers ≡ true) same is

    by : (w : Option CertWord) (ns : Option (List ℤ)) → row_of w ns ≡ Some l → is_row l.word l.numbers ≡ true
    by None ns e = absurd (cc)
    by (Some w) None e = absurd (cc)
    by (Some w) (Some ns) e = row w ns (is_row w ns) refl e

-- a first line states one of the two versions
row-version : (ns : List ℤ) → is_row Version ns ≡ true → ns ≡ version_number (version_of ns) ∷ []
row-version (pos (suc zero) ∷ []) e = refl
row-version (pos (suc (suc zero)) ∷ []) e = refl
row-version ns e = absurd (false≢true e)

row-objects : (ns : List ℤ) → is_row Objects ns ≡ true → (ns ≡ only_number ns ∷ []) × (is_count (only_number ns) ≡ true)
row-objects (n ∷ []) e = (refl, e)
row-objects ns e = absurd (false≢true e)

row-value : (ns : List ℤ) → is_row Value ns ≡ true → (ns ≡ only_number ns ∷ []) × (is_signed (only_number ns) ≡ true)
row-value (n ∷ []) e = (refl, e)
row-value ns e = absurd (false≢true e)

row-bound : (ns : List ℤ) → is_row Bound ns ≡ true → (ns ≡ only_number ns ∷ []) × (is_signed (only_number ns) ≡ true)
row-bound (n ∷ []) e = (refl, e)
row-bound ns e = absurd (false≢true e)

-- a count up to a limit
abbrev CountRow : ℕ → List ℤ → Type 0
CountRow limit ns = (ns ≡ only_number ns ∷ []) × (pos (nat_abs (only_number ns)) ≡ only_number ns) × (nat_abs (only_number ns) ≤ limit)

row-count : (limit : ℕ) (n : ℤ) → is_at_most limit n ≡ true → CountRow limit (n ∷ [])
row-count limit (pos n) e = (refl, refl, leb-true n limit (and_parts (int_le (pos 0) (pos n)) (int_le (pos n) (pos limit)) e).1)
row-count limit (negsuc n) e = absurd (false≢true e)

row-cuts : (ns : List ℤ) → is_row Cuts ns ≡ true → CountRow MAX_CUTS ns
row-cuts (n ∷ []) e = row-count MAX_CUTS n e
row-cuts ns e = absurd (false≢true e)

row-records : (ns : List ℤ) → is_row RecordsLine ns ≡ true → CountRow MAX_RECORDS ns
row-records (n ∷ []) e = row-count MAX_RECORDS n e
row-records ns e = absurd (false≢true e)

row-end : (ns : List ℤ) → is_row End ns ≡ true → ns ≡ []
row-end [] e = refl
row-end ns e = absurd (false≢true e)

-- ---- words

due-version : (w : CertWord) → is_version w ≡ true → w ≡ Version
due-version Version e = refl
due-version w e = absurd (false≢true e)

due-objects : (w : CertWord) → is_objects w ≡ true → w ≡ Objects
due-objects Objects e = refl
due-objects w e = absurd (false≢true e)

due-order : (w : CertWord) → is_order_line w ≡ true → w ≡ OrderLine
due-order OrderLine e = refl
due-order w e = absurd (false≢true e)

due-value : (w : CertWord) → is_value w ≡ true → w ≡ Value
due-value Value e = refl
due-value w e = absurd (false≢true e)

due-bound : (w : CertWord) → is_bound w ≡ true → w ≡ Bound
due-bound Bound e = refl
due-bound w e = absurd (false≢true e)

due-records : (w : CertWord) → is_records_line w ≡ true → w ≡ RecordsLine
due-records RecordsLine e = refl
due-records w e = absurd (false≢true e)

due-record : (w : CertWord) → is_record_line w ≡ true → w ≡ RecordLine
due-record RecordLine e = refl
due-record w e = absurd (false≢true e)

due-cuts : (w : CertWord) → is_cuts w ≡ true → w ≡ Cuts
due-cuts Cuts e = refl
due-cuts w e = absurd (false≢true e)

due-end : (w : CertWord) → is_end w ≡ true → w ≡ End
due-end End e = refl
due-end w e = absurd (false≢true e)

-- ---- the lines of a text

limited-ended_is : (start : ℕ) (piece bytes : List ℕ) → limited start piece true ≡ ended_line bytes → piece ≡ bytes
limited-ended_is start piece bytes e = by (nat_lt 131072 (length piece) && nat_le (start + 131072) (2 ^ 40)) (nat_lt (2 ^ 40) (start + length piece + 1)) e
  where
    by : (s t : Bool) → cond s long_line (cond t long_file (ended_line piece)) ≡ ended_line bytes → piece ≡ bytes
    by true t e = absurd (cc)
    by false true e = absurd (cc)
    by false false e = cc

limited-unended : (start : ℕ) (piece bytes : List ℕ) → limited start piece false ≡ ended_line bytes → ⊥
limited-unended start piece bytes e = by (nat_lt 131072 (length piece) && nat_le (start + 131072) (2 ^ 40)) (nat_lt (2 ^ 40) (start + length piece + 0)) e
  where
    by : (s t : Bool) → cond s long_line (cond t long_file (unended_line piece)) ≡ ended_line bytes → ⊥
    by true t e = cc
    by false true e = cc
    by false false e = cc

pieces-lines_from : (ps : List (List ℕ)) (start : ℕ) (ls : List CertLine) → 0 < length ps → lines_from start ps ≡ map ended ls → ps ≡ map line_text ls ++ [] ∷ []
pieces-lines_from [] start ls some e = absurd (omega arith)
pieces-lines_from ([] ∷ []) start [] some e = refl
pieces-lines_from ([] ∷ []) start (l ∷ ls) some e = absurd (cc)
pieces-lines_from ((b ∷ bs) ∷ []) start [] some e = absurd (cc)
pieces-lines_from ((b ∷ bs) ∷ []) start (l ∷ ls) some e =
    let first : limited start (b ∷ bs) false ≡ ended l = cc in
    absurd (limited-unended start (b ∷ bs) (line_text l) first)
pieces-lines_from (p ∷ q ∷ ps) start [] some e = let more = sym (lines_from-more start p q ps) ∙ e in absurd (cc)
pieces-lines_from (p ∷ q ∷ ps) start (l ∷ ls) some e =
    let more = sym (lines_from-more start p q ps) ∙ e in
    let first : limited start p true ≡ ended l = cc in
    let others : lines_from (start + length p + 1) (q ∷ ps) ≡ map ended ls = cc in
    ap (λ (x : List ℕ). x ∷ q ∷ ps) (limited-ended_is start p (line_text l) first)
    ∙ ap (λ (xs : List (List ℕ)). line_text l ∷ xs) (pieces-lines_from (q ∷ ps) (start + length p + 1) ls (omega arith) others)

joined-text : (ls : List CertLine) → join_with_byte 10 (map line_text ls ++ [] ∷ []) ≡ text_of ls
joined-text [] = refl
joined-text (l ∷ []) = sym (append-nil (line_text l ++ codes "\n"))
joined-text (l ∷ m ∷ ls) = ap (λ (x : List ℕ). line_text l ++ 10 ∷ x) (joined-text (m ∷ ls)) ∙ sym (append_assoc (line_text l) (codes "\n") (text_of (m ∷ ls)))

-- a text whose lines are all ended
text-text_lines : (bytes : List ℕ) (ls : List CertLine) → text_lines bytes ≡ map ended ls → bytes ≡ text_of ls
text-text_lines bytes ls e =
    let ps = slice_split (λ b. b == 10) bytes in
    let some : 0 < length ps = omega (arith, length-slice_split (λ b. b == 10) bytes) in
    sym (join_with_byte-slice_split 10 bytes) ∙ ap (join_with_byte 10) (pieces-lines_from ps 0 ls some e) ∙ joined-text ls

limited-ended_within : (start : ℕ) (piece bytes : List ℕ) → limited start piece true ≡ ended_line bytes → start + length piece + 1 ≤ 2 ^ 40
limited-ended_within start piece bytes e = by (nat_lt 131072 (length piece) && nat_le (start + 131072) (2 ^ 40)) (nat_lt (2 ^ 40) (start + length piece + 1)) refl e
  where
    by : (s t : Bool) → nat_lt (2 ^ 40) (start + length piece + 1) ≡ t → cond s long_line (cond t long_file (ended_line piece)) ≡ ended_line bytes → start + length piece + 1 ≤ 2 ^ 40
    by true t is e = absurd (cc)
    by false true is e = absurd (cc)
    by false false is e = ltb-false (2 ^ 40) (start + length piece + 1) is

-- a text whose lines are all ended has at most 2^40 bytes
within-lines_from : (ps : List (List ℕ)) (start : ℕ) (ls : List CertLine) → start ≤ 2 ^ 40 → lines_from start ps ≡ map ended ls → start + length (text_of ls) ≤ 2 ^ 40
within-lines_from [] start [] small e = omega arith
within-lines_from [] start (l ∷ ls) small e = absurd (cc)
within-lines_from ([] ∷ []) start [] small e = omega arith
within-lines_from ([] ∷ []) start (l ∷ ls) small e = absurd (cc)
within-lines_from ((b ∷ bs) ∷ []) start [] small e = absurd (cc)
within-lines_from ((b ∷ bs) ∷ []) start (l ∷ ls) small e =
    let first : limited start (b ∷ bs) false ≡ ended l = cc in
    absurd (limited-unended start (b ∷ bs) (line_text l) first)
within-lines_from (p ∷ q ∷ ps) start [] small e = let more = sym (lines_from-more start p q ps) ∙ e in absurd (cc)
within-lines_from (p ∷ q ∷ ps) start (l ∷ ls) small e =
    let more = sym (lines_from-more start p q ps) ∙ e in
    let first : limited start p true ≡ ended l = cc in
    let others : lines_from (start + length p + 1) (q ∷ ps) ≡ map ended ls = cc in
    let same : p ≡ line_text l = limited-ended_is start p (line_text l) first in
    omega (arith, length-text_of l ls, ap length same, within-lines_from (q ∷ ps) (start + length p + 1) ls (limited-ended_within start p (line_text l) first) others)

-- ---- the walk

-- an expected line that was there, and the rest that follows
record Expected (is_due : CertWord → Bool) (lines : List TextLine) (next : List ℤ → List TextLine → CheckAnswer) (answer : CheckAnswer) : Type 0 where
  line : CertLine
  rest : List TextLine
  lines_are : lines ≡ ended line ∷ rest
  row : is_row line.word line.numbers ≡ true
  due : is_due line.word ≡ true
  follows : next line.numbers rest ≡ answer

-- a line that was there, spelled right
record Spelled (lines : List TextLine) (next : CertLine → List TextLine → CheckAnswer) (answer : CheckAnswer) : Type 0 where
  line : CertLine
  rest : List TextLine
  lines_are : lines ≡ ended line ∷ rest
  row : is_row line.word line.numbers ≡ true
  follows : next line rest ≡ answer

module _ (v b : ℤ) where
  spelled_there : (number : ℕ) (lines : List TextLine) (next : CertLine → List TextLine → CheckAnswer) → spelled number lines next ≡ accepted v b → Spelled lines next (accepted v b)
  spelled_there number [] next e = absurd (cc)
  spelled_there number (long_file ∷ lines) next e = absurd (cc)
  spelled_there number (long_line ∷ lines) next e = absurd (cc)
  spelled_there number (unended_line bytes ∷ lines) next e = absurd (cc)
  spelled_there number (ended_line bytes ∷ lines) next e = by (line_reading bytes) refl e
    where
      by : (o : Option CertLine) → line_reading bytes ≡ o → with_line number o (λ l. next l lines) ≡ accepted v b → Spelled (ended_line bytes ∷ lines) next (accepted v b)
      by None is e = absurd (cc)
      by (Some l) is e = record {
        line = l;
        rest = lines;
        lines_are = ap (λ (x : List ℕ). ended_line x ∷ lines) (line_text-line_reading bytes l is);
        row = row-pieces_reading (pieces bytes) l is;
        follows = e;
      }

  passed : (t : Bool) (answer : CheckAnswer) (number : ℕ) (why : Reason) → cond t answer (rejected number why) ≡ accepted v b → (t ≡ true) × (answer ≡ accepted v b)
  passed false answer number why e = absurd (cc)
  passed true answer number why e = (refl, e)

  expected : (is_due : CertWord → Bool) (number : ℕ) (lines : List TextLine) (next : List ℤ → List TextLine → CheckAnswer) → expect is_due number lines next ≡ accepted v b → Expected is_due lines next (accepted v b)
  expected is_due number lines next e =
      let x = spelled_there number lines (λ line rest. cond (is_due line.word) (next line.numbers rest) (rejected number reason.Spelling)) e in
      let t = passed (is_due x.line.word) (next x.line.numbers x.rest) number reason.Spelling x.follows in
      record { line = x.line; rest = x.rest; lines_are = x.lines_are; row = x.row; due = t.0; follows = t.1 }

  nothing_behind : (value bound : ℤ) (number : ℕ) (lines : List TextLine) → tail_step value bound number lines ≡ accepted v b → (lines ≡ []) × (value ≡ v) × (bound ≡ b)
  nothing_behind value bound number [] e = (refl, cc, cc)
  nothing_behind value bound number (long_file ∷ lines) e = absurd (cc)
  nothing_behind value bound number (long_line ∷ lines) e = absurd (cc)
  nothing_behind value bound number (ended_line bytes ∷ lines) e = absurd (cc)
  nothing_behind value bound number (unended_line bytes ∷ lines) e = absurd (cc)

line_is : (l : CertLine) (w : CertWord) (ns : List ℤ) → l.word ≡ w → l.numbers ≡ ns → l ≡ record { word = w; numbers = ns }
line_is l w ns word numbers = ap (λ (x : CertWord). record { word = x; numbers = l.numbers }) word ∙ ap (λ (xs : List ℤ). record { word = w; numbers = xs }) numbers

int_le-both : (y z : ℤ) → (int_le y z && int_le z y) ≡ true → y ≡ z
int_le-both y z e = let parts = and_parts (int_le y z) (int_le z y) e in grind (arith, ints)

int_lt-less : (y z : ℤ) → int_lt y z ≡ true → y <ℤ z
int_lt-less y z e = grind (arith, ints)

-- a line that was there, and what stands behind it
line_then : (lines rest others : List TextLine) (line l : CertLine) → lines ≡ ended line ∷ rest → line ≡ l → rest ≡ others → lines ≡ ended l ∷ others
line_then lines rest others line l first is behind = first ∙ ap (λ (x : CertLine). ended x ∷ rest) is ∙ ap (λ (xs : List TextLine). ended l ∷ xs) behind

row_at : (ns : List ℤ) (w u : CertWord) → w ≡ u → is_row w ns ≡ true → is_row u ns ≡ true
row_at ns w u is row = subst (λ (x : CertWord). is_row x ns ≡ true) is row

-- lines from some line on
front_then : (lines rest : List TextLine) (line l : CertLine) → lines ≡ ended line ∷ rest → line ≡ l → lines ≡ ended l ∷ rest
front_then lines rest line l first is = first ∙ ap (λ (x : CertLine). ended x ∷ rest) is

module _ (v b : ℤ) where
  end_read : (value bound : ℤ) (number : ℕ) (lines : List TextLine) → end_step value bound number lines ≡ accepted v b → (lines ≡ map ended (end_line ∷ [])) × (value ≡ v) × (bound ≡ b)
  end_read value bound number lines e =
      let x = expected v b is_end number lines (λ _ rest. tail_step value bound (number + 1) rest) e in
      let last = nothing_behind v b value bound (number + 1) x.rest x.follows in
      let word = due-end x.line.word x.due in
      (line_then lines x.rest [] x.line end_line x.lines_are (line_is x.line End [] word (row-end x.line.numbers (row_at x.line.numbers x.line.word End word x.row))) last.0, last.1, last.2)

module _ (C : Matrix) (cuts : List CutKind) (L : List ℤ → Option CertRecord) (value bound v b : ℤ) where
  -- the lines are those of true trees for the pending paths, one after another, and the end
  abbrev Forest : List (List Pair) → List TextLine → Type 0
  Forest [] lines = (lines ≡ map ended (end_line ∷ [])) × (value ≡ v) × (bound ≡ b)
  Forest (path ∷ pending) lines = (tree : RowTree) × (rest : List TextLine) × IsRowTree C cuts L bound path tree × (lines ≡ map ended (row_lines tree) ++ rest) × Forest pending rest

  module _ (K : List Pair → List Pair) (closes : AreClosures K) (path : List Pair) (pending : List (List Pair)) (number : ℕ) (bytes : List ℕ) (lines : List TextLine) (later : (left : List (List Pair)) → tree_step K C cuts L value bound left (number + 1) lines ≡ accepted v b → Forest left lines) where
    abbrev next : List (List Pair) → CheckAnswer
    next left = tree_step K C cuts L value bound left (number + 1) lines

    first_line : (w : CertWord) (ns : List ℤ) (l : CertLine) → line_reading bytes ≡ Some (record { word = w; numbers = ns }) → l ≡ record { word = w; numbers = ns } → ended_line bytes ∷ lines ≡ ended l ∷ lines
    first_line w ns l is same =
        ap (λ (x : List ℕ). ended_line x ∷ lines) (line_text-line_reading bytes (record { word = w; numbers = ns }) is ∙ ap line_text (sym same))

    split_read : (ns : List ℤ) (o : Option Pair) → line_reading bytes ≡ Some (record { word = SplitLine; numbers = ns }) → split_of C.size (K path) ns ≡ o → split_step path pending number o next ≡ accepted v b → Forest (path ∷ pending) (ended_line bytes ∷ lines)
    split_read ns None is made e = absurd (cc)
    split_read ns (Some p) is made e =
        let t = line-split_of C.size path (K path) ns p (closes.each path) made in
        let f = later ((path ++ p ∷ []) ∷ (path ++ reversed p ∷ []) ∷ pending) e in
        let g = f.4 in
        let both : map ended (row_lines f.0) ++ (map ended (row_lines g.0) ++ g.1) ≡ map ended (row_lines f.0 ++ row_lines g.0) ++ g.1 =
        sym (append_assoc (map ended (row_lines f.0)) (map ended (row_lines g.0)) g.1) ∙ ap (λ (l : List TextLine). l ++ g.1) (sym (map-append ended (row_lines f.0) (row_lines g.0))) in (
          row_split p f.0 g.0,
          g.1,
          (t.undecided, f.2, g.2),
          first_line SplitLine ns (split_line p) is t.line
              ∙ ap (λ (l : List TextLine). ended (split_line p) ∷ l) (f.3 ∙ ap (λ (l : List TextLine). map ended (row_lines f.0) ++ l) g.3 ∙ both),
          g.4,
        )

    leaf_read : (ns : List ℤ) (o : Option CertRecord) → line_reading bytes ≡ Some (record { word = Leaf; numbers = ns }) → L ns ≡ o → leaf_step C cuts bound (K path) pending number o next ≡ accepted v b → Forest (path ∷ pending) (ended_line bytes ∷ lines)
    leaf_read ns None is made e = absurd (cc)
    leaf_read ns (Some r) is made e =
        let p = passed v b (int_lt (leaf_value C cuts (K path) r) (leaf_limit r bound)) (next pending) number (reason.High (leaf_value C cuts (K path) r) (leaf_limit r bound)) e in (
          row_leaf ns r,
          lines,
          record {
            row = row-pieces_reading (pieces bytes) (record { word = Leaf; numbers = ns }) is;
            gives = made;
            certified = CertifiesUnder-one C path (K path) r.scale (terms_in cuts r.terms) bound (closes.each path) (int_lt-less (leaf_value C cuts (K path) r) (leaf_limit r bound) p.0);
          },
          first_line Leaf ns (record { word = Leaf; numbers = ns }) is refl,
          later pending p.1,
        )

    node_read : (w : CertWord) (ns : List ℤ) → line_reading bytes ≡ Some (record { word = w; numbers = ns }) → node_step C cuts L bound (K path) path pending number w ns next ≡ accepted v b → Forest (path ∷ pending) (ended_line bytes ∷ lines)
    node_read SplitLine ns is e = split_read ns (split_of C.size (K path) ns) is refl e
    node_read Leaf ns is e = leaf_read ns (L ns) is refl e
    node_read w ns is e = absurd (cc)

    line_read : (o : Option CertLine) → line_reading bytes ≡ o → with_line number o (λ l. node_step C cuts L bound (K path) path pending number l.word l.numbers next) ≡ accepted v b → Forest (path ∷ pending) (ended_line bytes ∷ lines)
    line_read None is e = absurd (cc)
    line_read (Some l) is e = node_read l.word l.numbers is e

  trees_read : (K : List Pair → List Pair) → AreClosures K → (pending : List (List Pair)) (number : ℕ) (lines : List TextLine) → tree_step K C cuts L value bound pending number lines ≡ accepted v b → Forest pending lines
  trees_read K closes [] number lines e = end_read v b value bound number lines e
  trees_read K closes (path ∷ pending) number [] e = absurd (cc)
  trees_read K closes (path ∷ pending) number (long_file ∷ lines) e = absurd (cc)
  trees_read K closes (path ∷ pending) number (long_line ∷ lines) e = absurd (cc)
  trees_read K closes (path ∷ pending) number (unended_line bytes ∷ lines) e = absurd (cc)
  trees_read K closes (path ∷ pending) number (ended_line bytes ∷ lines) e =
      line_read K closes path pending number bytes lines (λ left. trees_read K closes left (number + 1) lines) (line_reading bytes) refl e

-- the lines behind the cuts: the records in this version, a true tree and the end
record Shown (C : Matrix) (version : CertVersion) (cuts : List CutKind) (bound : ℤ) : Type 0 where
  records : List CertRecord
  tree : Tree
  right : All (IsRecord (length cuts)) records
  is_tree : IsTree C cuts records bound [] tree
  has_text : (s : List ℕ) (value other : ℤ) → HasText version (record { order = s; value = value; bound = other; cuts = cuts; records = records; tree = tree })

abbrev shown_lines : {C : Matrix} (version : CertVersion) {cuts : List CutKind} {bound : ℤ} → Shown C version cuts bound → List CertLine
shown_lines version shown = record_lines version shown.records ++ (tree_lines (leaf_line version shown.records) shown.tree ++ end_line ∷ [])

-- the lines are those, and value and bound are the accepted ones
record ShownBy (C : Matrix) (version : CertVersion) (cuts : List CutKind) (value bound v b : ℤ) (lines : List TextLine) : Type 0 where
  shown : Shown C version cuts bound
  lines_are : lines ≡ map ended (shown_lines version shown)
  value_is : value ≡ v
  bound_is : bound ≡ b

-- the lines of a tree of rows and the end
tree_end : (ls ms : List CertLine) (lines rest : List TextLine) → lines ≡ map ended ls ++ rest → rest ≡ map ended (end_line ∷ []) → ls ≡ ms → lines ≡ map ended (ms ++ end_line ∷ [])
tree_end ls ms lines rest first last same =
    first ∙ ap (λ (l : List TextLine). map ended ls ++ l) last ∙ sym (map-append ended ls (end_line ∷ [])) ∙ ap (λ (l : List CertLine). map ended (l ++ end_line ∷ [])) same

-- the records of so many lines, and the tree behind them
record RecordsRead (C : Matrix) (cuts : List CutKind) (value bound v b : ℤ) (k : ℕ) (records : List CertRecord) (lines : List TextLine) : Type 0 where
  more : List CertRecord
  rest : List TextLine
  many : length more ≡ k
  right : All (IsRecord (length cuts)) more
  total : term_count records ≤ MAX_TOTAL_TERMS → term_count (records ++ more) ≤ MAX_TOTAL_TERMS
  lines_are : lines ≡ map ended (map record_line more) ++ rest
  forest : Forest C cuts (leaf_of Two (length cuts) (records ++ more)) value bound v b ([] ∷ []) rest

module _ (K : List Pair → List Pair) (closes : AreClosures K) (C : Matrix) (cuts : List CutKind) (value bound v b : ℤ) where
  record_read : (k : ℕ) (records : List CertRecord) (number : ℕ) (lines : List TextLine) (x : Expected is_record_line lines (λ numbers rest. with_record number (if_within records (record_of (length cuts) numbers)) (λ r. records_left_step K C cuts value bound k (records ++ r ∷ []) (number + 1) rest)) (accepted v b))
      → ((r : CertRecord) → records_left_step K C cuts value bound k (records ++ r ∷ []) (number + 1) x.rest ≡ accepted v b → RecordsRead C cuts value bound v b k (records ++ r ∷ []) x.rest) → RecordsRead C cuts value bound v b (suc k) records lines
  record_read k records number lines x later = by (record_of (length cuts) x.line.numbers) refl x.follows
    where
      fits : (r : CertRecord) (t : Bool) → nat_le (term_count records + length r.terms) MAX_TOTAL_TERMS ≡ t → record_of (length cuts) x.line.numbers ≡ Some r → with_record number (cond t (Some r) None) (λ y. records_left_step K C cuts value bound k (records ++ y ∷ []) (number + 1) x.rest) ≡ accepted v b → RecordsRead C cuts value bound v b (suc k) records lines
      fits r false small is e = absurd (cc)
      fits r true small is e =
          let word = due-record x.line.word x.due in
          let t = row-record_of (length cuts) x.line.numbers r (row_at x.line.numbers x.line.word RecordLine word x.row) is in
          let y = later r e in
          let within : term_count (records ++ r ∷ []) ≤ MAX_TOTAL_TERMS = omega (arith, term_count-more records r, leb-true (term_count records + length r.terms) MAX_TOTAL_TERMS small) in
          let same = append_assoc records (r ∷ []) y.more in
          record {
            more = r ∷ y.more;
            rest = y.rest;
            many = ap suc y.many;
            right = All-cons (IsRecord (length cuts)) r y.more t.is_record y.right;
            total = λ _. subst (λ (l : List CertRecord). term_count l ≤ MAX_TOTAL_TERMS) same (y.total within);
            lines_are = front_then lines x.rest x.line (record_line r) x.lines_are (line_is x.line RecordLine (record_line r).numbers word (sym t.numbers)) ∙ ap (λ (l : List TextLine). ended (record_line r) ∷ l) y.lines_are;
            forest = subst (λ (l : List CertRecord). Forest C cuts (leaf_of Two (length cuts) l) value bound v b ([] ∷ []) y.rest) same y.forest;
          }

      by : (o : Option CertRecord) → record_of (length cuts) x.line.numbers ≡ o → with_record number (if_within records o) (λ r. records_left_step K C cuts value bound k (records ++ r ∷ []) (number + 1) x.rest) ≡ accepted v b → RecordsRead C cuts value bound v b (suc k) records lines
      by None is e = absurd (cc)
      by (Some r) is e = fits r (nat_le (term_count records + length r.terms) MAX_TOTAL_TERMS) refl is e

  records_left_read : (k : ℕ) (records : List CertRecord) (number : ℕ) (lines : List TextLine) → records_left_step K C cuts value bound k records number lines ≡ accepted v b → RecordsRead C cuts value bound v b k records lines
  records_left_read zero records number lines e = record {
    more = [];
    rest = lines;
    many = refl;
    right = All-nil (IsRecord (length cuts));
    total = λ h. subst (λ (l : List CertRecord). term_count l ≤ MAX_TOTAL_TERMS) (sym (append-nil records)) h;
    lines_are = refl;
    forest = subst (λ (l : List CertRecord). Forest C cuts (leaf_of Two (length cuts) l) value bound v b ([] ∷ []) lines) (sym (append-nil records)) (trees_read C cuts (leaf_of Two (length cuts) records) value bound v b K closes ([] ∷ []) number lines e);
  }
  records_left_read (suc k) records number lines e =
      let x = expected v b is_record_line number lines (λ numbers rest. with_record number (if_within records (record_of (length cuts) numbers)) (λ r. records_left_step K C cuts value bound k (records ++ r ∷ []) (number + 1) rest)) e in
      record_read k records number lines x (λ r. records_left_read k (records ++ r ∷ []) (number + 1) x.rest)

  -- each leaf has its own record
  own_read : (lines : List TextLine) → Forest C cuts (leaf_of One (length cuts) []) value bound v b ([] ∷ []) lines → ShownBy C One cuts value bound v b lines
  own_read lines f =
      let t = numbered_tree C cuts bound f.0 f.2 in
      record {
        shown = record { records = t.records; tree = t.tree; right = t.right; is_tree = t.is_tree; has_text = λ _ _ _. t.named };
        lines_are = tree_end (row_lines f.0) (tree_lines (leaf_line One t.records) t.tree) lines f.1 f.3 f.4.0 (sym t.lines);
        value_is = f.4.1;
        bound_is = f.4.2;
      }

  -- each leaf names one
  named_read : (number : ℕ) (lines : List TextLine) (x : Expected is_records_line lines (λ numbers rest. records_left_step K C cuts value bound (nat_abs (only_number numbers)) [] (number + 1) rest) (accepted v b)) → RecordsRead C cuts value bound v b (nat_abs (only_number x.line.numbers)) [] x.rest → ShownBy C Two cuts value bound v b lines
  named_read number lines x r =
      let f = r.forest in
      let records = r.more in
      let t = named_tree C cuts bound records [] f.0 f.2 in
      let word = due-records x.line.word x.due in
      let row = row-records x.line.numbers (row_at x.line.numbers x.line.word RecordsLine word x.row) in
      let count : pos (length records) ≡ only_number x.line.numbers = ap pos r.many ∙ row.1 in
      let line = line_is x.line RecordsLine (pos (length records) ∷ []) word (row.0 ∙ ap (λ (n : ℤ). n ∷ []) (sym count)) in
      let few : length records ≤ MAX_RECORDS = omega (arith, r.many, row.2) in
      let total : term_count records ≤ MAX_TOTAL_TERMS = r.total (omega arith) in
      let behind = tree_lines (leaf_line Two records) t.tree ++ end_line ∷ [] in
      let tree = tree_end (row_lines f.0) (tree_lines (leaf_line Two records) t.tree) r.rest f.1 f.3 f.4.0 (sym t.lines) in
      record {
        shown = record { records = records; tree = t.tree; right = r.right; is_tree = t.is_tree; has_text = λ _ _ _. (few, total) };
        lines_are = line_then lines x.rest (map ended (map record_line records ++ behind)) x.line (records_line records) x.lines_are line
            (r.lines_are ∙ ap (λ (l : List TextLine). map ended (map record_line records) ++ l) tree ∙ sym (map-append ended (map record_line records) behind));
        value_is = f.4.1;
        bound_is = f.4.2;
      }

  records_read : (version : CertVersion) (number : ℕ) (lines : List TextLine) → records_step K C version cuts value bound number lines ≡ accepted v b → ShownBy C version cuts value bound v b lines
  records_read One number lines e = own_read lines (trees_read C cuts (leaf_of One (length cuts) []) value bound v b K closes ([] ∷ []) number lines e)
  records_read Two number lines e =
      let x = expected v b is_records_line number lines (λ numbers rest. records_left_step K C cuts value bound (nat_abs (only_number numbers)) [] (number + 1) rest) e in
      named_read number lines x (records_left_read (nat_abs (only_number x.line.numbers)) [] (number + 1) x.rest x.follows)

-- the cuts of so many lines, and what stands behind them
record CutsRead (C : Matrix) (version : CertVersion) (value bound v b : ℤ) (k : ℕ) (cuts : List CutKind) (lines : List TextLine) : Type 0 where
  more : List CutKind
  rest : List TextLine
  many : length more ≡ k
  right : All IsCut more
  fit : All (FitsCut C.size) more
  shaped : All IsShapedCut more
  lines_are : lines ≡ map ended (map cut_line more) ++ rest
  behind : ShownBy C version (cuts ++ more) value bound v b rest

module _ (K : List Pair → List Pair) (closes : AreClosures K) (C : Matrix) (version : CertVersion) (value bound v b : ℤ) where
  cut_read : (k : ℕ) (cuts : List CutKind) (number : ℕ) (lines : List TextLine) (x : Spelled lines (λ line rest. cut_step C.size number line.word line.numbers (λ cut. cuts_left_step K C version value bound k (cuts ++ cut ∷ []) (number + 1) rest)) (accepted v b))
      → ((cut : CutKind) → cuts_left_step K C version value bound k (cuts ++ cut ∷ []) (number + 1) x.rest ≡ accepted v b → CutsRead C version value bound v b k (cuts ++ cut ∷ []) x.rest) → CutsRead C version value bound v b (suc k) cuts lines
  cut_read k cuts number lines x later =
      let next : CutKind → CheckAnswer = λ cut. cuts_left_step K C version value bound k (cuts ++ cut ∷ []) (number + 1) x.rest in
      let p = passed v b (is_cut_word x.line.word) (with_cut number (cut_of C.size x.line.word x.line.numbers) next) number reason.Spelling x.follows in
      by (cut_of C.size x.line.word x.line.numbers) refl p.1
    where
      by : (o : Option CutKind) → cut_of C.size x.line.word x.line.numbers ≡ o → with_cut number o (λ cut. cuts_left_step K C version value bound k (cuts ++ cut ∷ []) (number + 1) x.rest) ≡ accepted v b → CutsRead C version value bound v b (suc k) cuts lines
      by None is e = absurd (cc)
      by (Some cut) is e =
          let t = line-cut_of C.size x.line.word x.line.numbers cut x.row is in
          let r = later cut e in
          record {
            more = cut ∷ r.more;
            rest = r.rest;
            many = ap suc r.many;
            right = All-cons IsCut cut r.more t.right r.right;
            fit = All-cons (FitsCut C.size) cut r.more t.fits r.fit;
            shaped = All-cons IsShapedCut cut r.more t.shaped r.shaped;
            lines_are = front_then lines x.rest x.line (cut_line cut) x.lines_are (sym t.line) ∙ ap (λ (l : List TextLine). ended (cut_line cut) ∷ l) r.lines_are;
            behind = subst (λ (l : List CutKind). ShownBy C version l value bound v b r.rest) (append_assoc cuts (cut ∷ []) r.more) r.behind;
          }

  cuts_left_read : (k : ℕ) (cuts : List CutKind) (number : ℕ) (lines : List TextLine) → cuts_left_step K C version value bound k cuts number lines ≡ accepted v b → CutsRead C version value bound v b k cuts lines
  cuts_left_read zero cuts number lines e = record {
    more = [];
    rest = lines;
    many = refl;
    right = All-nil IsCut;
    fit = All-nil (FitsCut C.size);
    shaped = All-nil IsShapedCut;
    lines_are = refl;
    behind = subst (λ (l : List CutKind). ShownBy C version l value bound v b lines) (sym (append-nil cuts)) (records_read K closes C cuts value bound v b version number lines e);
  }
  cuts_left_read (suc k) cuts number lines e =
      let x = spelled_there v b number lines (λ line rest. cut_step C.size number line.word line.numbers (λ cut. cuts_left_step K C version value bound k (cuts ++ cut ∷ []) (number + 1) rest)) e in
      cut_read k cuts number lines x (λ cut. cuts_left_read k (cuts ++ cut ∷ []) (number + 1) x.rest)

-- the cuts of a certificate, its records where they have lines, its tree and the end
abbrev certificate_tail : CertVersion → Certificate → List CertLine
certificate_tail version c = map cut_line c.cuts ++ (record_lines version c.records ++ (tree_lines (leaf_line version c.records) c.tree ++ end_line ∷ []))

-- cuts, and what stands behind them
record Argument (C : Matrix) (version : CertVersion) (bound : ℤ) : Type 0 where
  cuts : List CutKind
  few : length cuts ≤ MAX_CUTS
  right : All IsCut cuts
  fit : All (FitsCut C.size) cuts
  shaped : All IsShapedCut cuts
  shown : Shown C version cuts bound

-- their number, they, and what stands behind them
abbrev argument_lines : {C : Matrix} (version : CertVersion) {bound : ℤ} → Argument C version bound → List CertLine
argument_lines version a = record { word = Cuts; numbers = pos (length a.cuts) ∷ [] } ∷ map cut_line a.cuts ++ shown_lines version a.shown

module _ (K : List Pair → List Pair) (closes : AreClosures K) (C : Matrix) (version : CertVersion) (v b : ℤ) where
  -- the lines from the number of cuts on
  record FromCuts (value bound : ℤ) (lines : List TextLine) : Type 0 where
    argument : Argument C version bound
    lines_are : lines ≡ map ended (argument_lines version argument)
    value_is : value ≡ v
    bound_is : bound ≡ b

  cuts_read : (value bound : ℤ) (lines : List TextLine) → cuts_step K C version value bound 6 lines ≡ accepted v b → FromCuts value bound lines
  cuts_read value bound lines e =
      let x = expected v b is_cuts 6 lines (λ numbers rest. cuts_left_step K C version value bound (nat_abs (only_number numbers)) [] 7 rest) e in
      with_rest x (cuts_left_read K closes C version value bound v b (nat_abs (only_number x.line.numbers)) [] 7 x.rest x.follows)
    where
      with_rest : (x : Expected is_cuts lines (λ numbers rest. cuts_left_step K C version value bound (nat_abs (only_number numbers)) [] 7 rest) (accepted v b)) → CutsRead C version value bound v b (nat_abs (only_number x.line.numbers)) [] x.rest → FromCuts value bound lines
      with_rest x r =
          let y = r.behind in
          let word = due-cuts x.line.word x.due in
          let row = row-cuts x.line.numbers (row_at x.line.numbers x.line.word Cuts word x.row) in
          let cuts = r.more in
          let count : pos (length cuts) ≡ only_number x.line.numbers = ap pos r.many ∙ row.1 in
          let line = line_is x.line Cuts (pos (length cuts) ∷ []) word (row.0 ∙ ap (λ (n : ℤ). n ∷ []) (sym count)) in
          let last : x.rest ≡ map ended (map cut_line cuts ++ shown_lines version y.shown) =
          r.lines_are ∙ ap (λ (l : List TextLine). map ended (map cut_line cuts) ++ l) y.lines_are ∙ sym (map-append ended (map cut_line cuts) (shown_lines version y.shown)) in
          record {
            argument = record { cuts = cuts; few = omega (arith, r.many, row.2); right = r.right; fit = r.fit; shaped = r.shaped; shown = y.shown };
            lines_are = line_then lines x.rest (map ended (map cut_line cuts ++ shown_lines version y.shown)) x.line (record { word = Cuts; numbers = pos (length cuts) ∷ [] }) x.lines_are line last;
            value_is = y.value_is;
            bound_is = y.bound_is;
          }

  -- the lines from the bound on
  record FromBound (value : ℤ) (lines : List TextLine) : Type 0 where
    argument : Argument C version b
    lines_are : lines ≡ map ended (record { word = Bound; numbers = b ∷ [] } ∷ argument_lines version argument)
    value_is : value ≡ v
    bound_signed : is_signed b ≡ true

  bound_read : (value : ℤ) (lines : List TextLine) → bound_step K C version value 5 lines ≡ accepted v b → FromBound value lines
  bound_read value lines e =
      let x = expected v b is_bound 5 lines (λ numbers rest. cuts_step K C version value (only_number numbers) 6 rest) e in
      let last = cuts_read value (only_number x.line.numbers) x.rest x.follows in
      with_rest x last.value_is (subst (λ (n : ℤ). (a : Argument C version n) × (x.rest ≡ map ended (argument_lines version a))) last.bound_is (last.argument, last.lines_are)) last.bound_is
    where
      with_rest : (x : Expected is_bound lines (λ numbers rest. cuts_step K C version value (only_number numbers) 6 rest) (accepted v b)) → value ≡ v → ((a : Argument C version b) × (x.rest ≡ map ended (argument_lines version a))) → only_number x.line.numbers ≡ b → FromBound value lines
      with_rest x value_is last bound_is =
          let word = due-bound x.line.word x.due in
          let row = row-bound x.line.numbers (row_at x.line.numbers x.line.word Bound word x.row) in
          let line = line_is x.line Bound (b ∷ []) word (row.0 ∙ ap (λ (n : ℤ). n ∷ []) bound_is) in
          record {
            argument = last.0;
            lines_are = line_then lines x.rest (map ended (argument_lines version last.0)) x.line (record { word = Bound; numbers = b ∷ [] }) x.lines_are line last.1;
            value_is = value_is;
            bound_signed = subst (λ (n : ℤ). is_signed n ≡ true) bound_is row.1;
          }

  -- the lines from the value on
  record FromValue (s : List ℕ) (lines : List TextLine) : Type 0 where
    argument : Argument C version b
    lines_are : lines ≡ map ended (record { word = Value; numbers = v ∷ [] } ∷ record { word = Bound; numbers = b ∷ [] } ∷ argument_lines version argument)
    value_is : v ≡ weight C s
    value_signed : is_signed v ≡ true
    bound_signed : is_signed b ≡ true

  value_read : (s : List ℕ) (lines : List TextLine) → value_step K C version (weight C s) 4 lines ≡ accepted v b → FromValue s lines
  value_read s lines e =
      let x = expected v b is_value 4 lines (λ numbers rest. cond (int_le (only_number numbers) (weight C s) && int_le (weight C s) (only_number numbers)) (bound_step K C version (only_number numbers) 5 rest) (rejected 4 (reason.Value (only_number numbers) (weight C s)))) e in
      let value = only_number x.line.numbers in
      let t = passed v b (int_le value (weight C s) && int_le (weight C s) value) (bound_step K C version value 5 x.rest) 4 (reason.Value value (weight C s)) x.follows in
      with_rest x t.0 (bound_read value x.rest t.1)
    where
      with_rest : (x : Expected is_value lines (λ numbers rest. cond (int_le (only_number numbers) (weight C s) && int_le (weight C s) (only_number numbers)) (bound_step K C version (only_number numbers) 5 rest) (rejected 4 (reason.Value (only_number numbers) (weight C s)))) (accepted v b)) → (int_le (only_number x.line.numbers) (weight C s) && int_le (weight C s) (only_number x.line.numbers)) ≡ true → FromBound (only_number x.line.numbers) x.rest → FromValue s lines
      with_rest x t last =
          let word = due-value x.line.word x.due in
          let row = row-value x.line.numbers (row_at x.line.numbers x.line.word Value word x.row) in
          let line = line_is x.line Value (v ∷ []) word (row.0 ∙ ap (λ (n : ℤ). n ∷ []) last.value_is) in
          record {
            argument = last.argument;
            lines_are = line_then lines x.rest (map ended (record { word = Bound; numbers = b ∷ [] } ∷ argument_lines version last.argument)) x.line (record { word = Value; numbers = v ∷ [] }) x.lines_are line last.lines_are;
            value_is = sym last.value_is ∙ int_le-both (only_number x.line.numbers) (weight C s) t;
            value_signed = subst (λ (n : ℤ). is_signed n ≡ true) last.value_is row.1;
            bound_signed = last.bound_signed;
          }

  -- the lines from the order on
  record FromOrder (lines : List TextLine) : Type 0 where
    certificate : Certificate
    holds : IsTreeCertificate C certificate
    has_text : HasText version certificate
    value_is : certificate.value ≡ v
    bound_is : certificate.bound ≡ b
    lines_are : lines ≡ map ended (order_line certificate ∷ value_line certificate ∷ bound_line certificate ∷ cuts_line certificate ∷ certificate_tail version certificate)

  order_read : (lines : List TextLine) → order_step K C version 3 lines ≡ accepted v b → FromOrder lines
  order_read lines e =
      let x = expected v b is_order_line 3 lines (λ numbers rest. cond (is_order C.size numbers) (value_step K C version (weight C (objects_of numbers)) 4 rest) (rejected 3 reason.OrderLine)) e in
      let t = passed v b (is_order C.size x.line.numbers) (value_step K C version (weight C (objects_of x.line.numbers)) 4 x.rest) 3 reason.OrderLine x.follows in
      with_rest x (IsOrder-is_order C.size x.line.numbers t.0) (value_read (objects_of x.line.numbers) x.rest t.1)
    where
      with_rest : (x : Expected is_order_line lines (λ numbers rest. cond (is_order C.size numbers) (value_step K C version (weight C (objects_of numbers)) 4 rest) (rejected 3 reason.OrderLine)) (accepted v b)) → IsOrder C.size (objects_of x.line.numbers) × (numbers_of_objects (objects_of x.line.numbers) ≡ x.line.numbers) → FromValue (objects_of x.line.numbers) x.rest → FromOrder lines
      with_rest x order last =
          let s = objects_of x.line.numbers in
          let a = last.argument in
          let c : Certificate = record { order = s; value = v; bound = b; cuts = a.cuts; records = a.shown.records; tree = a.shown.tree } in
          record {
            certificate = c;
            holds = record {
              order_is = order.0;
              value_is = last.value_is;
              value_fits = ltb-true (nat_abs v) (2 ^ 63) last.value_signed;
              bound_fits = ltb-true (nat_abs b) (2 ^ 63) last.bound_signed;
              few_cuts = a.few;
              cuts_are = a.right;
              cuts_fit = a.fit;
              cuts_shaped = a.shaped;
              records_are = a.shown.right;
              tree_is = a.shown.is_tree;
            };
            has_text = a.shown.has_text s v b;
            value_is = refl;
            bound_is = refl;
            lines_are = line_then lines x.rest (map ended (value_line c ∷ bound_line c ∷ cuts_line c ∷ certificate_tail version c)) x.line (order_line c) x.lines_are (line_is x.line OrderLine (numbers_of_objects s) (due-order x.line.word x.due) (sym order.1)) last.lines_are;
          }

  -- the lines from the number of objects on
  record FromObjects (lines : List TextLine) : Type 0 where
    certificate : Certificate
    holds : IsTreeCertificate C certificate
    has_text : HasText version certificate
    value_is : certificate.value ≡ v
    bound_is : certificate.bound ≡ b
    lines_are : lines ≡ map ended (objects_line certificate ∷ order_line certificate ∷ value_line certificate ∷ bound_line certificate ∷ cuts_line certificate ∷ certificate_tail version certificate)

  objects_read : (lines : List TextLine) → objects_step K C version 2 lines ≡ accepted v b → FromObjects lines
  objects_read lines e =
      let x = expected v b is_objects 2 lines (λ numbers rest. cond (nat_abs (only_number numbers) == C.size) (order_step K C version 3 rest) (rejected 2 reason.Size)) e in
      let t = passed v b (nat_abs (only_number x.line.numbers) == C.size) (order_step K C version 3 x.rest) 2 reason.Size x.follows in
      with_rest x (eqb-true (nat_abs (only_number x.line.numbers)) C.size t.0) (order_read x.rest t.1)
    where
      with_rest : (x : Expected is_objects lines (λ numbers rest. cond (nat_abs (only_number numbers) == C.size) (order_step K C version 3 rest) (rejected 2 reason.Size)) (accepted v b)) → nat_abs (only_number x.line.numbers) ≡ C.size → FromOrder x.rest → FromObjects lines
      with_rest x size last =
          let c = last.certificate in
          let word = due-objects x.line.word x.due in
          let row = row-objects x.line.numbers (row_at x.line.numbers x.line.word Objects word x.row) in
          let number = count_is (only_number x.line.numbers) (length c.order) row.1 (size ∙ sym last.holds.order_is.complete) in
          record {
            certificate = c;
            holds = last.holds;
            has_text = last.has_text;
            value_is = last.value_is;
            bound_is = last.bound_is;
            lines_are = line_then lines x.rest (map ended (order_line c ∷ value_line c ∷ bound_line c ∷ cuts_line c ∷ certificate_tail version c)) x.line (objects_line c) x.lines_are (line_is x.line Objects (pos (length c.order) ∷ []) word (row.0 ∙ ap (λ (n : ℤ). n ∷ []) number)) last.lines_are;
          }

-- lines that are accepted: those of a true certificate
pub record AreAccepted (C : Matrix) (lines : List TextLine) (v b : ℤ) : Type 0 where
  pub certificate : Certificate
  pub holds : IsTreeCertificate C certificate
  pub version : CertVersion
  pub has_text : HasText version certificate
  pub value_is : certificate.value ≡ v
  pub bound_is : certificate.bound ≡ b
  pub lines_are : lines ≡ map ended (certificate_lines version certificate)

pub accepted_lines : (C : Matrix) (lines : List TextLine) (v b : ℤ) → version_step closed C 1 lines ≡ accepted v b → AreAccepted C lines v b
accepted_lines C lines v b is =
    let x = expected v b is_version 1 lines (λ numbers rest. objects_step closed C (version_of numbers) 2 rest) is in
    with_rest x (objects_read closed AreClosures-closed C (version_of x.line.numbers) v b x.rest x.follows)
  where
    with_rest : (x : Expected is_version lines (λ numbers rest. objects_step closed C (version_of numbers) 2 rest) (accepted v b)) → FromObjects closed AreClosures-closed C (version_of x.line.numbers) v b x.rest → AreAccepted C lines v b
    with_rest x last =
        let c = last.certificate in
        let version = version_of x.line.numbers in
        let word = due-version x.line.word x.due in
        let line = line_is x.line Version (version_number version ∷ []) word (row-version x.line.numbers (row_at x.line.numbers x.line.word Version word x.row)) in
        record {
          certificate = c;
          holds = last.holds;
          version = version;
          has_text = last.has_text;
          value_is = last.value_is;
          bound_is = last.bound_is;
          lines_are = line_then lines x.rest (map ended (objects_line c ∷ order_line c ∷ value_line c ∷ bound_line c ∷ cuts_line c ∷ certificate_tail version c)) x.line (version_line version) x.lines_are line last.lines_are;
        }

-- nothing else is accepted
pub IsCertificateText-IsCheckAnswer : (C : Matrix) (bytes : List ℕ) (v b : ℤ) → IsCheckAnswer C bytes (accepted v b) → IsCertificateText C bytes v b
IsCertificateText-IsCheckAnswer C bytes v b is =
    let x = accepted_lines C (text_lines bytes) v b (is closed AreClosures-closed) in
    let text = text-text_lines bytes (certificate_lines x.version x.certificate) x.lines_are in
    record {
      certificate = x.certificate;
      holds = x.holds;
      version = x.version;
      has_text = x.has_text;
      text = text;
      value_is = x.value_is;
      bound_is = x.bound_is;
      fits = omega (arith, ap length text, within-lines_from (slice_split (λ k. k == 10) bytes) 0 (certificate_lines x.version x.certificate) (omega arith) x.lines_are);
    }
