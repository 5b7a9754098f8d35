-- The text of a certificate that is true is accepted.
use Rattle.std.proofs.Common.{◌≡◌, ℕ, ◌+◌, ◌-◌, ◌*◌, ◌^◌, ◌<◌, ◌≤◌, suc, Bool, true, ◌&&◌, ◌==◌, cond, List, [], ◌∷◌, ◌++◌, length, map, codes, nat_lt, nat_le, get_or, ℤ, pos, nat_abs, Option, None, Some, refl, sym, ◌∙◌, ap, arith}
use Rattle.std.specs.Prelude.{int_lt, int_le, ◌<ℤ◌, All}
use Rattle.std.specs.List.{flat_map, list_all, slice_split}
use Rattle.std.proofs.lemmas.Bool.{and_from, lt-ltb, le-ltb, le-leb, eq-eqb}
use Rattle.std.proofs.lemmas.Int.{ints}
use Rattle.std.proofs.lemmas.List.{append_assoc, length-map, length-append, map-append, append-nil}
use Rattle.std.proofs.lemmas.Grind.{flat_map-append}
use Rattle.std.proofs.lemmas.List.Elements.{All-cons, All-head, All-tail, All-get_or}
use Rattle.std.proofs.lemmas.List.Folds.{list_all-append}
use Rattle.std.proofs.lemmas.List.Splits.{slice_split_at}
use Rattle.lop_model.specs.declared.pair.Pair.{Pair}
use Rattle.lop_model.specs.Matrix.{Matrix, IsWeights, weight}
use Rattle.lop_cuts.specs.declared.kind.Cycle.{Cycle}
use Rattle.lop_cuts.specs.declared.kind.Cycle.TheVariants.{Three, Four}
use Rattle.lop_cuts.specs.declared.kind.CutKind.{CutKind}
use Rattle.lop_cuts.specs.declared.kind.CutKind.TheVariants as kind
use Rattle.lop_cuts.specs.Kind.{IsCut, FitsCut}
use Rattle.lop_cuts.specs.Kind.{objects_of as cycle_objects}
use Rattle.lop_certtext.specs.declared.limits.TheConstants.{MAX_CUTS, MAX_RECORDS, MAX_TOTAL_TERMS}
use Rattle.lop_certtext.specs.declared.version.CertVersion.{CertVersion}
use Rattle.lop_certtext.specs.declared.version.CertVersion.TheVariants.{One, Two}
use Rattle.lop_certtext.specs.declared.word.CertWord.{CertWord}
use Rattle.lop_certtext.specs.declared.word.CertWord.TheVariants.{Version, Objects, OrderLine, Value, Bound, Cuts, RecordsLine, End}
use Rattle.lop_certtext.specs.declared.reason.Reason.TheVariants as reason
use Rattle.lop_certtext.specs.Line.{CertLine, is_count, are_counts, is_row, word_text, line_text}
use Rattle.lop_model.specs.Closing.{AreClosures}
use Rattle.lop_certtext.specs.CutLine.{numbers_of_objects, cycle_numbers, cut_line, IsShapedCycle, IsShapedCut, objects_of, cut_of}
use Rattle.lop_certtext.specs.RecordLine.{CertRecord, numbered_record, term_count, record_line, leaf_numbers, leaf_line, record_of, if_within, leaf_of}
use Rattle.lop_certtext.specs.Tree.{Tree, leaf, split, split_line, tree_lines, IsRecord, IsLeaf, IsTree}
use Rattle.lop_model.specs.Reversed.{reversed}
use Rattle.lop_certtext.specs.Certificate.{Certificate, version_number, record_lines, certificate_lines, certificate_text, text_of, HasText, IsTreeCertificate}
use Rattle.lop_certtext.specs.Reading.{number_word}
use Rattle.lop_certtext.specs.Answer.{TextLine, ended_line, long_line, long_file, limited, lines_from, text_lines, CheckAnswer, accepted, rejected, with_line, spelled, expect, is_version, is_objects, is_order_line, is_value, is_bound, is_cuts, is_records_line, is_record_line, is_end, only_number, version_of, is_order, version_step, objects_step, order_step, value_step, bound_step, cuts_step, cuts_left_step, records_step, records_left_step, with_record, is_cut_word, with_cut, cut_step, tree_step, node_step, split_step, leaf_step, leaf_value, leaf_limit, tail_step, IsCheckAnswer}
use Rattle.lop_certtext.proofs.Lines.{All-from_free, lf_free-line_text, length-word_text, length-line_text, line_reading-line_text}
use Rattle.lop_certtext.proofs.ObjectNumbers.{objects_of-numbers, is_order-order}
use Rattle.lop_certtext.proofs.CutText.{cut_of-line}
use Rattle.lop_certtext.proofs.NodeText.{record_of-numbers, leaf_of-numbers, split_of-line, counts-record, length-record_words}

-- ---- the lines of a text

-- a line that may be written, of fewer than 131,072 bytes
pub record IsWritten (l : CertLine) : Type 0 where
  pub row : is_row l.word l.numbers ≡ true
  pub short : length (line_text l) < 131072

abbrev pub AreWritten : List CertLine → Type 0
AreWritten [] = Unit {0}
AreWritten (l ∷ ls) = IsWritten l × AreWritten ls

pub written : (l : CertLine) → is_row l.word l.numbers ≡ true → length l.numbers ≤ 1000 → IsWritten l
written l row few = record { row = row; short = omega (arith, length-line_text l row) }

-- the pieces between LFs
pieces-text : (ls : List CertLine) → AreWritten ls → slice_split (λ b. b == 10) (text_of ls) ≡ map line_text ls ++ [] ∷ []
pieces-text [] w = refl
pieces-text (l ∷ ls) w =
    ap (slice_split (λ b. b == 10)) (append_assoc (line_text l) (codes "\n") (text_of ls))
    ∙ slice_split_at (λ b. b == 10) (line_text l) 10 (text_of ls) (All-from_free 10 (line_text l) (lf_free-line_text l w.0.row)) refl
    ∙ ap (λ (ps : List (List ℕ)). line_text l ∷ ps) (pieces-text ls w.1)

limited-ended : (start : ℕ) (bytes : List ℕ) → length bytes < 131072 → start + length bytes + 1 ≤ 2 ^ 40 → limited start bytes true ≡ ended_line bytes
limited-ended start bytes short within =
    ap (λ (t : Bool). cond (t && nat_le (start + 131072) (2 ^ 40)) long_line (cond (nat_lt (2 ^ 40) (start + length bytes + 1)) long_file (ended_line bytes))) (le-ltb 131072 (length bytes) (omega arith))
    ∙ ap (λ (t : Bool). cond t long_file (ended_line bytes)) (le-ltb (2 ^ 40) (start + length bytes + 1) within)

pub lines_from-more : (start : ℕ) (piece next : List ℕ) (ps : List (List ℕ)) → lines_from start (piece ∷ next ∷ ps) ≡ limited start piece true ∷ lines_from (start + length piece + 1) (next ∷ ps)
lines_from-more start [] next ps = refl
lines_from-more start (b ∷ bs) next ps = refl

abbrev pub ended : CertLine → TextLine
ended l = ended_line (line_text l)

-- a line in front of others
lines_from-line : (start : ℕ) (l : CertLine) (next : List ℕ) (ps : List (List ℕ)) (lines : List TextLine) → IsWritten l → start + length (line_text l) + 1 ≤ 2 ^ 40 → lines_from (start + length (line_text l) + 1) (next ∷ ps) ≡ lines → lines_from start (line_text l ∷ next ∷ ps) ≡ ended l ∷ lines
lines_from-line start l next ps lines w within others =
    lines_from-more start (line_text l) next ps
    ∙ ap (λ (t : TextLine). t ∷ lines_from (start + length (line_text l) + 1) (next ∷ ps)) (limited-ended start (line_text l) w.short within)
    ∙ ap (λ (ts : List TextLine). ended l ∷ ts) others

-- the bytes of a text, line by line
pub length-text_of : (l : CertLine) (ls : List CertLine) → length (text_of (l ∷ ls)) ≡ length (line_text l) + 1 + length (text_of ls)
length-text_of l ls = omega (arith, length-append (line_text l ++ codes "\n") (text_of ls), length-append (line_text l) (codes "\n"))

-- lines that may be written are short
pub short_text : (ls : List CertLine) → AreWritten ls → length (text_of ls) ≤ 131072 * length ls
short_text [] w = omega arith
short_text (l ∷ ls) w = omega (arith, length-text_of l ls, w.0.short, short_text ls w.1)

lines_from-text : (ls : List CertLine) (start : ℕ) → AreWritten ls → start + length (text_of ls) ≤ 2 ^ 40 → lines_from start (map line_text ls ++ [] ∷ []) ≡ map ended ls
lines_from-text [] start w within = refl
lines_from-text (l ∷ []) start w within = lines_from-line start l [] [] [] w.0 (omega (arith, length-text_of l [])) refl
lines_from-text (l ∷ m ∷ ls) start w within =
    lines_from-line start l (line_text m) (map line_text ls ++ [] ∷ []) (map ended (m ∷ ls)) w.0 (omega (arith, length-text_of l (m ∷ ls)))
    (lines_from-text (m ∷ ls) (start + length (line_text l) + 1) w.1 (omega (arith, length-text_of l (m ∷ ls))))

text_lines-text : (ls : List CertLine) → AreWritten ls → length (text_of ls) ≤ 2 ^ 40 → text_lines (text_of ls) ≡ map ended ls
text_lines-text ls w fits = ap (lines_from 0) (pieces-text ls w) ∙ lines_from-text ls 0 w (omega (arith, fits))

-- ---- an order

pub counts-order : (n : ℕ) (s : List ℕ) → n ≤ 512 → ((p : ℕ) → p < length s → get_or s p 0 < n) → list_all is_count (numbers_of_objects s) ≡ true
counts-order n [] small below = refl
counts-order n (a ∷ s) small below =
    let within : a < n = below 0 (omega arith) in
    and_from _ _ (lt-ltb (a + 1) (2 ^ 63) (omega arith)) (counts-order n s small (λ p h. below (suc p) (omega arith)))

pub row-objects : (s : List ℕ) → 0 < length s → list_all is_count (numbers_of_objects s) ≡ true → are_counts (numbers_of_objects s) ≡ true
row-objects [] some counts = absurd (omega arith)
row-objects (a ∷ s) some counts = counts

-- ---- the walk

-- a line that is spelled right
spelled-line : (number : ℕ) (l : CertLine) (lines : List TextLine) (next : CertLine → List TextLine → CheckAnswer) → IsWritten l → spelled number (ended l ∷ lines) next ≡ next l lines
spelled-line number l lines next w = ap (λ (o : Option CertLine). with_line number o (λ x. next x lines)) (line_reading-line_text l w.row)

-- a line with the word that is due
expect-line : (is_due : CertWord → Bool) (number : ℕ) (l : CertLine) (lines : List TextLine) (next : List ℤ → List TextLine → CheckAnswer) → IsWritten l → is_due l.word ≡ true → expect is_due number (ended l ∷ lines) next ≡ next l.numbers lines
expect-line is_due number l lines next w due =
    spelled-line number l lines (λ x rest. cond (is_due x.word) (next x.numbers rest) (rejected number reason.Spelling)) w
    ∙ ap (λ (t : Bool). cond t (next l.numbers lines) (rejected number reason.Spelling)) due

int_le-same : (z : ℤ) → int_le z z ≡ true
int_le-same z = grind (arith, ints)

int_lt-true : (y z : ℤ) → y <ℤ z → int_lt y z ≡ true
int_lt-true y z less = grind (arith, ints)

abbrev pub version_line : CertVersion → CertLine
version_line version = record { word = Version; numbers = version_number version ∷ [] }

abbrev pub objects_line : Certificate → CertLine
objects_line c = record { word = Objects; numbers = pos (length c.order) ∷ [] }

abbrev pub order_line : Certificate → CertLine
order_line c = record { word = OrderLine; numbers = numbers_of_objects c.order }

abbrev pub value_line : Certificate → CertLine
value_line c = record { word = Value; numbers = c.value ∷ [] }

abbrev pub bound_line : Certificate → CertLine
bound_line c = record { word = Bound; numbers = c.bound ∷ [] }

abbrev pub cuts_line : Certificate → CertLine
cuts_line c = record { word = Cuts; numbers = pos (length c.cuts) ∷ [] }

abbrev pub records_line : List CertRecord → CertLine
records_line records = record { word = RecordsLine; numbers = pos (length records) ∷ [] }

abbrev pub end_line : CertLine
end_line = record { word = End; numbers = [] }

-- each line of a true certificate may be written

version_written : (version : CertVersion) → IsWritten (version_line version)
version_written One = written (version_line One) refl (omega arith)
version_written Two = written (version_line Two) refl (omega arith)

end_written : IsWritten end_line
end_written = written end_line refl (omega arith)

AreWritten-append : (ls ms : List CertLine) → AreWritten ls → AreWritten ms → AreWritten (ls ++ ms)
AreWritten-append [] ms w v = v
AreWritten-append (l ∷ ls) ms w v = (w.0, AreWritten-append ls ms w.1 v)

small_count : (k : ℕ) → k ≤ 1000 → is_count (pos k) ≡ true
small_count k small = lt-ltb k (2 ^ 63) (omega arith)

counts_below : (n : ℕ) (s : List ℕ) → n ≤ 512 → All (λ a. a < n) s → list_all is_count (numbers_of_objects s) ≡ true
counts_below n [] small below = refl
counts_below n (a ∷ s) small below =
    let first : a < n = All-head (λ x. x < n) a s below in
    and_from _ _ (lt-ltb (a + 1) (2 ^ 63) (omega arith)) (counts_below n s small (All-tail (λ x. x < n) a s below))

length-cycle : (c : Cycle) → IsShapedCycle c → length (cycle_numbers c) ≤ 5
length-cycle (Three objects) shaped = omega (arith, length-map objects (λ a. pos (a + 1)))
length-cycle (Four objects) shaped = omega (arith, length-map objects (λ a. pos (a + 1)))

cycle_counts : (n : ℕ) (c : Cycle) → n ≤ 512 → IsShapedCycle c → All (λ a. a < n) (cycle_objects c) → list_all is_count (cycle_numbers c) ≡ true
cycle_counts n (Three objects) small shaped below = and_from _ _ (small_count (length objects) (omega arith)) (counts_below n objects small below)
cycle_counts n (Four objects) small shaped below = and_from _ _ (small_count (length objects) (omega arith)) (counts_below n objects small below)

All-append_parts : (P : ℕ → Type 0) (xs ys : List ℕ) → All P (xs ++ ys) → All P xs × All P ys
All-append_parts P [] ys h = (λ k d l. absurd (omega arith), h)
All-append_parts P (x ∷ xs) ys h =
    let rest = All-append_parts P xs ys (All-tail P x (xs ++ ys) h) in
    (All-cons P x xs (All-head P x (xs ++ ys) h) rest.0, rest.1)

counts_both : (xs ys : List ℤ) → list_all is_count xs ≡ true → list_all is_count ys ≡ true → list_all is_count (xs ++ ys) ≡ true
counts_both xs ys e f = list_all-append is_count xs ys ∙ and_from _ _ e f

cycles_row : (n : ℕ) (cs : List Cycle) → n ≤ 512 → All IsShapedCycle cs → All (λ a. a < n) (flat_map cycle_objects cs) → (list_all is_count (flat_map cycle_numbers cs) ≡ true) × (length (flat_map cycle_numbers cs) ≤ 5 * length cs)
cycles_row n [] small shaped below = (refl, omega arith)
cycles_row n (c ∷ cs) small shaped below =
    let parts = All-append_parts (λ a. a < n) (cycle_objects c) (flat_map cycle_objects cs) below in
    let rest = cycles_row n cs small (All-tail IsShapedCycle c cs shaped) parts.1 in
    let first = All-head IsShapedCycle c cs shaped in (
      counts_both (cycle_numbers c) (flat_map cycle_numbers cs) (cycle_counts n c small first parts.0) rest.0,
      omega (arith, length-append (cycle_numbers c) (flat_map cycle_numbers cs), length-cycle c first, rest.1),
    )

pub cut_written : (n : ℕ) (cut : CutKind) → n ≤ 512 → IsCut cut → FitsCut n cut → IsShapedCut cut → IsWritten (cut_line cut)
cut_written n (kind.Dicycle objects) small right fits shaped =
    let size : length objects ≡ 3 = right.size in
    written (cut_line (kind.Dicycle objects)) (row-objects objects (omega arith) (counts_below n objects small fits)) (omega (arith, length-map objects (λ a. pos (a + 1))))
cut_written n (kind.Fence u w) small right fits shaped =
    let most : length u.items ≤ 8 = right.at_most in
    let same : length u.items ≡ length w.items = right.same_length in
    written (cut_line (kind.Fence u w)) (and_from _ _ (small_count (length u.items) (omega arith)) (counts_below n (u.items ++ w.items) small fits)) (omega (arith, length-map (u.items ++ w.items) (λ a. pos (a + 1)), length-append u.items w.items))
cut_written n (kind.Ladder cycles) small right fits shaped =
    let most : length (map cycle_objects cycles.items) ≤ 9 = right.at_most in
    let size : length (map cycle_objects cycles.items) ≡ length cycles.items = length-map cycles.items cycle_objects in
    let row = cycles_row n cycles.items small shaped fits in
    written (cut_line (kind.Ladder cycles)) (and_from _ _ (small_count (length cycles.items) (omega arith)) row.0) (omega (arith, row.1))

cuts_written : (n : ℕ) (cs : List CutKind) → n ≤ 512 → All IsCut cs → All (FitsCut n) cs → All IsShapedCut cs → AreWritten (map cut_line cs)
cuts_written n [] small right fits shaped = tt
cuts_written n (c ∷ cs) small right fits shaped =
    (cut_written n c small (All-head IsCut c cs right) (All-head (FitsCut n) c cs fits) (All-head IsShapedCut c cs shaped), cuts_written n cs small (All-tail IsCut c cs right) (All-tail (FitsCut n) c cs fits) (All-tail IsShapedCut c cs shaped))

-- a line of so few words more
short_words : (l : CertLine) → length (flat_map number_word l.numbers) ≤ 122942 → is_row l.word l.numbers ≡ true → IsWritten l
short_words l few row = record { row = row; short = omega (arith, length-append (word_text l.word) (flat_map number_word l.numbers), length-word_text l.word, few) }

pub record_written : (count : ℕ) (r : CertRecord) → count ≤ MAX_CUTS → IsRecord count r → IsWritten (record_line r)
record_written count r few is = short_words (record_line r) (length-record_words count r few is) (counts-record count r few is)

records_written : (count : ℕ) (rs : List CertRecord) → count ≤ MAX_CUTS → All (IsRecord count) rs → AreWritten (map record_line rs)
records_written count [] few are = tt
records_written count (r ∷ rs) few are = (record_written count r few (All-head (IsRecord count) r rs are), records_written count rs few (All-tail (IsRecord count) r rs are))

count_of_records_written : (records : List CertRecord) → length records ≤ MAX_RECORDS → IsWritten (records_line records)
count_of_records_written records few = written (records_line records) (and_from _ _ (le-leb 0 (length records) (omega arith)) (le-leb (length records) MAX_RECORDS few)) (omega arith)

-- the line of a leaf with a record of the list, and that of one that names it
own_written : (count : ℕ) (records : List CertRecord) (number : ℕ) → count ≤ MAX_CUTS → All (IsRecord count) records → 1 ≤ number → number ≤ length records → IsWritten (leaf_line One records number)
own_written count records number few are first last =
    let r = All-get_or (IsRecord count) records (number - 1) (record { scale = 1; terms = [] }) (omega arith) are in
    short_words (leaf_line One records number) (length-record_words count (numbered_record records number) few r) (counts-record count (numbered_record records number) few r)

named_written : (records : List CertRecord) (number : ℕ) → number < 2 ^ 63 → IsWritten (leaf_line Two records number)
named_written records number small = written (leaf_line Two records number) (and_from _ _ (lt-ltb number (2 ^ 63) small) refl) (omega arith)

module _ (C : Matrix) (weights : IsWeights C) (cuts : List CutKind) (records : List CertRecord) (bound : ℤ) (version : CertVersion) (leaves_written : (number : ℕ) → 1 ≤ number → number ≤ length records → IsWritten (leaf_line version records number)) where
  split_written : (path : List Pair) (p : Pair) → p.before < C.size → p.after < C.size → IsWritten (split_line p)
  split_written path p first second =
      let limit : C.size ≤ 512 = weights.within_limit in
      written (split_line p) (and_from _ _ (lt-ltb (p.before + 1) (2 ^ 63) (omega arith)) (and_from _ _ (lt-ltb (p.after + 1) (2 ^ 63) (omega arith)) refl)) (omega arith)

  tree_written : (path : List Pair) (tree : Tree) → IsTree C cuts records bound path tree → AreWritten (tree_lines (leaf_line version records) tree)
  tree_written path (leaf number) is = (leaves_written number is.from_one is.within, tt)
  tree_written path (split p first second) is =
      (split_written path p is.0.first is.0.second, AreWritten-append (tree_lines (leaf_line version records) first) (tree_lines (leaf_line version records) second) (tree_written (path ++ p ∷ []) first is.1) (tree_written (path ++ reversed p ∷ []) second is.2))

  -- ---- the tree

  module _ (K : List Pair → List Pair) (closes : AreClosures K) (L : List ℤ → Option CertRecord) (reads : (number : ℕ) → 1 ≤ number → number ≤ length records → L (leaf_numbers version records number) ≡ Some (numbered_record records number)) (value : ℤ) where
    leaf_holds : (path : List Pair) (pending : List (List Pair)) (number i : ℕ) (rest : List TextLine) → IsLeaf C cuts records bound path i → tree_step K C cuts L value bound (path ∷ pending) number (ended (leaf_line version records i) ∷ rest) ≡ tree_step K C cuts L value bound pending (number + 1) rest
    leaf_holds path pending number i rest is =
        let next : List (List Pair) → CheckAnswer = λ left. tree_step K C cuts L value bound left (number + 1) rest in
        let w = leaves_written i is.from_one is.within in
        let r = numbered_record records i in
        let high = rejected number (reason.High (leaf_value C cuts (K path) r) (leaf_limit r bound)) in
        ap (λ (o : Option CertLine). with_line number o (λ x. node_step C cuts L bound (K path) path pending number x.word x.numbers next)) (line_reading-line_text (leaf_line version records i) w.row)
        ∙ ap (λ (o : Option CertRecord). leaf_step C cuts bound (K path) pending number o next) (reads i is.from_one is.within)
        ∙ ap (λ (t : Bool). cond t (next pending) high) (int_lt-true (leaf_value C cuts (K path) r) (leaf_limit r bound) (is.certified.each (K path) (closes.each path)))

    split_holds : (path : List Pair) (pending : List (List Pair)) (number : ℕ) (p : Pair) (lines : List TextLine) (first second : Tree) → IsTree C cuts records bound path (split p first second) → tree_step K C cuts L value bound (path ∷ pending) number (ended (split_line p) ∷ lines) ≡ tree_step K C cuts L value bound ((path ++ p ∷ []) ∷ (path ++ reversed p ∷ []) ∷ pending) (number + 1) lines
    split_holds path pending number p lines first second is =
        let next : List (List Pair) → CheckAnswer = λ left. tree_step K C cuts L value bound left (number + 1) lines in
        let w = split_written path p is.0.first is.0.second in
        ap (λ (o : Option CertLine). with_line number o (λ x. node_step C cuts L bound (K path) path pending number x.word x.numbers next)) (line_reading-line_text (split_line p) w.row)
        ∙ ap (λ (o : Option Pair). split_step path pending number o next) (split_of-line C.size path (K path) p (closes.each path) is.0)

    -- the lines of a true tree take its path away
    tree_holds : (path : List Pair) (tree : Tree) → IsTree C cuts records bound path tree → (pending : List (List Pair)) (number : ℕ) (rest : List TextLine) → tree_step K C cuts L value bound (path ∷ pending) number (map ended (tree_lines (leaf_line version records) tree) ++ rest) ≡ tree_step K C cuts L value bound pending (number + length (tree_lines (leaf_line version records) tree)) rest
    tree_holds path (leaf i) is pending number rest = leaf_holds path pending number i rest is
    tree_holds path (split p first second) is pending number rest =
        let here = map ended (tree_lines (leaf_line version records) first) in
        let there = map ended (tree_lines (leaf_line version records) second) in
        let count : (number + 1) + length (tree_lines (leaf_line version records) first) + length (tree_lines (leaf_line version records) second) ≡ number + length (tree_lines (leaf_line version records) (split p first second)) = omega (arith, length-append (tree_lines (leaf_line version records) first) (tree_lines (leaf_line version records) second)) in
        let paths = (path ++ p ∷ []) ∷ (path ++ reversed p ∷ []) ∷ pending in
        split_holds path pending number p (map ended (tree_lines (leaf_line version records) first ++ tree_lines (leaf_line version records) second) ++ rest) first second is
        ∙ ap (λ (ls : List TextLine). tree_step K C cuts L value bound paths (number + 1) (ls ++ rest)) (map-append ended (tree_lines (leaf_line version records) first) (tree_lines (leaf_line version records) second))
        ∙ ap (tree_step K C cuts L value bound paths (number + 1)) (append_assoc here there rest)
        ∙ tree_holds (path ++ p ∷ []) first is.1 ((path ++ reversed p ∷ []) ∷ pending) (number + 1) (there ++ rest)
        ∙ tree_holds (path ++ reversed p ∷ []) second is.2 pending ((number + 1) + length (tree_lines (leaf_line version records) first)) rest
        ∙ ap (λ (k : ℕ). tree_step K C cuts L value bound pending k rest) count

-- one record more
pub term_count-more : (records : List CertRecord) (r : CertRecord) → term_count (records ++ r ∷ []) ≡ term_count records + length r.terms
term_count-more records r =
    ap length (flat_map-append (λ (x : CertRecord). x.terms) records (r ∷ []))
    ∙ length-append (flat_map (λ x. x.terms) records) (r.terms ++ [])
    ∙ ap (λ (k : ℕ). term_count records + k) (ap length (append-nil r.terms))

is_cut_word-line : (cut : CutKind) → is_cut_word (cut_line cut).word ≡ true
is_cut_word-line (kind.Dicycle objects) = refl
is_cut_word-line (kind.Fence u w) = refl
is_cut_word-line (kind.Ladder cycles) = refl

-- the lines of cuts are read as those cuts
cuts_hold : (K : List Pair → List Pair) (C : Matrix) (version : CertVersion) (value bound : ℤ) → IsWeights C → (cs : List CutKind) → All IsCut cs → All (FitsCut C.size) cs → All IsShapedCut cs → (cuts : List CutKind) (number : ℕ) (rest : List TextLine) → cuts_left_step K C version value bound (length cs) cuts number (map ended (map cut_line cs) ++ rest) ≡ records_step K C version (cuts ++ cs) value bound (number + length cs) rest
cuts_hold K C version value bound weights [] right fits shaped cuts number rest =
    let same : number ≡ number + 0 = omega arith in
    ap (λ (l : List CutKind). records_step K C version l value bound number rest) (sym (append-nil cuts)) ∙ ap (λ (k : ℕ). records_step K C version (cuts ++ []) value bound k rest) same
cuts_hold K C version value bound weights (c ∷ cs) right fits shaped cuts number rest =
    let lines = map ended (map cut_line cs) ++ rest in
    let l = cut_line c in
    let is = All-head IsCut c cs right in
    let in_n = All-head (FitsCut C.size) c cs fits in
    let shape = All-head IsShapedCut c cs shaped in
    let next : CutKind → CheckAnswer = λ cut. cuts_left_step K C version value bound (length cs) (cuts ++ cut ∷ []) (number + 1) lines in
    let count : (number + 1) + length cs ≡ number + length (c ∷ cs) = omega arith in
    spelled-line number l lines (λ line after. cut_step C.size number line.word line.numbers (λ cut. cuts_left_step K C version value bound (length cs) (cuts ++ cut ∷ []) (number + 1) after)) (cut_written C.size c weights.within_limit is in_n shape)
    ∙ ap (λ (t : Bool). cond t (with_cut number (cut_of C.size l.word l.numbers) next) (rejected number reason.Spelling)) (is_cut_word-line c)
    ∙ ap (λ (o : Option CutKind). with_cut number o next) (cut_of-line C.size c is in_n shape)
    ∙ cuts_hold K C version value bound weights cs (All-tail IsCut c cs right) (All-tail (FitsCut C.size) c cs fits) (All-tail IsShapedCut c cs shaped) (cuts ++ c ∷ []) (number + 1) rest
    ∙ ap (λ (m : List CutKind). records_step K C version m value bound ((number + 1) + length cs) rest) (append_assoc cuts (c ∷ []) cs)
    ∙ ap (λ (k : ℕ). records_step K C version (cuts ++ c ∷ cs) value bound k rest) count

-- the lines of records are read as those records
records_hold : (K : List Pair → List Pair) (C : Matrix) (cuts : List CutKind) (value bound : ℤ) → length cuts ≤ MAX_CUTS → (rs : List CertRecord) → All (IsRecord (length cuts)) rs → (records : List CertRecord) → term_count records + term_count rs ≤ MAX_TOTAL_TERMS → (number : ℕ) (rest : List TextLine)
    → records_left_step K C cuts value bound (length rs) records number (map ended (map record_line rs) ++ rest) ≡ tree_step K C cuts (leaf_of Two (length cuts) (records ++ rs)) value bound ([] ∷ []) (number + length rs) rest
records_hold K C cuts value bound few [] are records total number rest =
    let same : number ≡ number + 0 = omega arith in
    ap (λ (l : List CertRecord). tree_step K C cuts (leaf_of Two (length cuts) l) value bound ([] ∷ []) number rest) (sym (append-nil records))
    ∙ ap (λ (k : ℕ). tree_step K C cuts (leaf_of Two (length cuts) (records ++ [])) value bound ([] ∷ []) k rest) same
records_hold K C cuts value bound few (r ∷ rs) are records total number rest =
    let lines = map ended (map record_line rs) ++ rest in
    let is = All-head (IsRecord (length cuts)) r rs are in
    let next : CertRecord → CheckAnswer = λ x. records_left_step K C cuts value bound (length rs) (records ++ x ∷ []) (number + 1) lines in
    let count : (number + 1) + length rs ≡ number + length (r ∷ rs) = omega arith in
    let parts : term_count (r ∷ rs) ≡ length r.terms + term_count rs = length-append r.terms (flat_map (λ x. x.terms) rs) in
    expect-line is_record_line number (record_line r) lines (λ numbers after. with_record number (if_within records (record_of (length cuts) numbers)) (λ x. records_left_step K C cuts value bound (length rs) (records ++ x ∷ []) (number + 1) after)) (record_written (length cuts) r few is) refl
    ∙ ap (λ (o : Option CertRecord). with_record number (if_within records o) next) (record_of-numbers (length cuts) r is)
    ∙ ap (λ (t : Bool). with_record number (cond t (Some r) None) next) (le-leb (term_count records + length r.terms) MAX_TOTAL_TERMS (omega (arith, parts)))
    ∙ records_hold K C cuts value bound few rs (All-tail (IsRecord (length cuts)) r rs are) (records ++ r ∷ []) (omega (arith, parts, term_count-more records r)) (number + 1) rest
    ∙ ap (λ (m : List CertRecord). tree_step K C cuts (leaf_of Two (length cuts) m) value bound ([] ∷ []) ((number + 1) + length rs) rest) (append_assoc records (r ∷ []) rs)
    ∙ ap (λ (k : ℕ). tree_step K C cuts (leaf_of Two (length cuts) (records ++ r ∷ rs)) value bound ([] ∷ []) k rest) count

module _ (C : Matrix) (weights : IsWeights C) (c : Certificate) (holds : IsTreeCertificate C c) (version : CertVersion) (has_text : HasText version c) where
  size_is : length c.order ≡ C.size
  size_is = holds.order_is.complete

  below : (p : ℕ) → p < length c.order → get_or c.order p 0 < C.size
  below p h = holds.order_is.below p (omega (arith, size_is))

  objects_written : IsWritten (objects_line c)
  objects_written = written (objects_line c) (lt-ltb (length c.order) (2 ^ 63) (omega (arith, weights.within_limit, size_is))) (omega arith)

  order_written : IsWritten (order_line c)
  order_written =
      let counts = counts-order C.size c.order weights.within_limit below in
      written (order_line c) (row-objects c.order (omega (arith, weights.positive, size_is)) counts) (omega (arith, length-map c.order (λ a. pos (a + 1)), weights.within_limit, size_is))

  value_written : IsWritten (value_line c)
  value_written = written (value_line c) (lt-ltb (nat_abs c.value) (2 ^ 63) holds.value_fits) (omega arith)

  bound_written : IsWritten (bound_line c)
  bound_written = written (bound_line c) (lt-ltb (nat_abs c.bound) (2 ^ 63) holds.bound_fits) (omega arith)

  count_written : IsWritten (cuts_line c)
  count_written = written (cuts_line c) (and_from _ _ (le-leb 0 (length c.cuts) (omega arith)) (le-leb (length c.cuts) MAX_CUTS holds.few_cuts)) (omega arith)

  -- the leaves
  leaves_are_written : (number : ℕ) → 1 ≤ number → number ≤ length c.records → IsWritten (leaf_line version c.records number)
  leaves_are_written number first last = by version has_text
    where
      by : (v : CertVersion) → HasText v c → IsWritten (leaf_line v c.records number)
      by One has = own_written (length c.cuts) c.records number holds.few_cuts holds.records_are first last
      by Two has =
          let many : length c.records ≤ MAX_RECORDS = has.0 in
          named_written c.records number (omega arith)

  leaf_reads : (number : ℕ) → 1 ≤ number → number ≤ length c.records → leaf_of version (length c.cuts) c.records (leaf_numbers version c.records number) ≡ Some (numbered_record c.records number)
  leaf_reads number first last = leaf_of-numbers version (length c.cuts) c.records number holds.records_are first last

  -- the lines from each step on
  abbrev from_tree : List CertLine
  from_tree = tree_lines (leaf_line version c.records) c.tree ++ end_line ∷ []

  abbrev from_records : List CertLine
  from_records = record_lines version c.records ++ from_tree

  abbrev from_cuts : List CertLine
  from_cuts = map cut_line c.cuts ++ from_records

  tree_accepted : (K : List Pair → List Pair) → AreClosures K → (number : ℕ) → tree_step K C c.cuts (leaf_of version (length c.cuts) c.records) c.value c.bound ([] ∷ []) number (map ended from_tree) ≡ accepted c.value c.bound
  tree_accepted K closes number =
      let L = leaf_of version (length c.cuts) c.records in
      let lines = tree_lines (leaf_line version c.records) c.tree in
      ap (tree_step K C c.cuts L c.value c.bound ([] ∷ []) number) (map-append ended lines (end_line ∷ []))
      ∙ tree_holds C weights c.cuts c.records c.bound version leaves_are_written K closes L leaf_reads c.value [] c.tree holds.tree_is [] number (ended end_line ∷ [])
      ∙ expect-line is_end (number + length lines) end_line [] (λ _ rest. tail_step c.value c.bound (number + length lines + 1) rest) end_written refl

  records_accepted : (K : List Pair → List Pair) → AreClosures K → (number : ℕ) → records_step K C version c.cuts c.value c.bound number (map ended from_records) ≡ accepted c.value c.bound
  records_accepted K closes number = by version has_text (tree_accepted K closes)
    where
      by : (v : CertVersion) → HasText v c → ((k : ℕ) → tree_step K C c.cuts (leaf_of v (length c.cuts) c.records) c.value c.bound ([] ∷ []) k (map ended (tree_lines (leaf_line v c.records) c.tree ++ end_line ∷ [])) ≡ accepted c.value c.bound)
          → records_step K C v c.cuts c.value c.bound number (map ended (record_lines v c.records ++ (tree_lines (leaf_line v c.records) c.tree ++ end_line ∷ []))) ≡ accepted c.value c.bound
      by One has tree = tree number
      by Two has tree =
          let behind = tree_lines (leaf_line Two c.records) c.tree ++ end_line ∷ [] in
          let lines = map ended (map record_line c.records ++ behind) in
          let all : term_count [] + term_count c.records ≤ MAX_TOTAL_TERMS = omega (arith, has.1) in
          expect-line is_records_line number (records_line c.records) lines (λ numbers rest. records_left_step K C c.cuts c.value c.bound (nat_abs (only_number numbers)) [] (number + 1) rest) (count_of_records_written c.records has.0) refl
          ∙ ap (records_left_step K C c.cuts c.value c.bound (length c.records) [] (number + 1)) (map-append ended (map record_line c.records) behind)
          ∙ records_hold K C c.cuts c.value c.bound holds.few_cuts c.records holds.records_are [] all (number + 1) (map ended behind)
          ∙ tree ((number + 1) + length c.records)

  cuts_accepted : (K : List Pair → List Pair) → AreClosures K → cuts_left_step K C version c.value c.bound (length c.cuts) [] 7 (map ended from_cuts) ≡ accepted c.value c.bound
  cuts_accepted K closes =
      ap (cuts_left_step K C version c.value c.bound (length c.cuts) [] 7) (map-append ended (map cut_line c.cuts) from_records)
      ∙ cuts_hold K C version c.value c.bound weights c.cuts holds.cuts_are holds.cuts_fit holds.cuts_shaped [] 7 (map ended from_records)
      ∙ records_accepted K closes (7 + length c.cuts)

  abbrev from_count : List TextLine
  from_count = ended (cuts_line c) ∷ map ended from_cuts

  abbrev from_bound : List TextLine
  from_bound = ended (bound_line c) ∷ from_count

  abbrev from_value : List TextLine
  from_value = ended (value_line c) ∷ from_bound

  abbrev from_order : List TextLine
  from_order = ended (order_line c) ∷ from_value

  abbrev from_objects : List TextLine
  from_objects = ended (objects_line c) ∷ from_order

  count_holds : (K : List Pair → List Pair) → AreClosures K → cuts_step K C version c.value c.bound 6 from_count ≡ accepted c.value c.bound
  count_holds K closes = expect-line is_cuts 6 (cuts_line c) (map ended from_cuts) (λ numbers rest. cuts_left_step K C version c.value c.bound (nat_abs (only_number numbers)) [] 7 rest) count_written refl ∙ cuts_accepted K closes

  bound_holds : (K : List Pair → List Pair) → AreClosures K → bound_step K C version c.value 5 from_bound ≡ accepted c.value c.bound
  bound_holds K closes = expect-line is_bound 5 (bound_line c) from_count (λ numbers rest. cuts_step K C version c.value (only_number numbers) 6 rest) bound_written refl ∙ count_holds K closes

  value_holds : (K : List Pair → List Pair) → AreClosures K → value_step K C version (weight C c.order) 4 from_value ≡ accepted c.value c.bound
  value_holds K closes =
      let w = weight C c.order in
      let test : (int_le c.value w && int_le w c.value) ≡ true = ap (λ (z : ℤ). int_le c.value z && int_le z c.value) (sym holds.value_is) ∙ and_from _ _ (int_le-same c.value) (int_le-same c.value) in
      expect-line is_value 4 (value_line c) from_bound (λ numbers rest. cond (int_le (only_number numbers) w && int_le w (only_number numbers)) (bound_step K C version (only_number numbers) 5 rest) (rejected 4 (reason.Value (only_number numbers) w))) value_written refl
      ∙ ap (λ (t : Bool). cond t (bound_step K C version c.value 5 from_bound) (rejected 4 (reason.Value c.value w))) test
      ∙ bound_holds K closes

  order_holds : (K : List Pair → List Pair) → AreClosures K → order_step K C version 3 from_order ≡ accepted c.value c.bound
  order_holds K closes =
      expect-line is_order_line 3 (order_line c) from_value (λ numbers rest. cond (is_order C.size numbers) (value_step K C version (weight C (objects_of numbers)) 4 rest) (rejected 3 reason.OrderLine)) order_written refl
      ∙ ap (λ (t : Bool). cond t (value_step K C version (weight C (objects_of (numbers_of_objects c.order))) 4 from_value) (rejected 3 reason.OrderLine)) (is_order-order C.size c.order holds.order_is)
      ∙ ap (λ (s : List ℕ). value_step K C version (weight C s) 4 from_value) (objects_of-numbers c.order)
      ∙ value_holds K closes

  objects_holds : (K : List Pair → List Pair) → AreClosures K → objects_step K C version 2 from_objects ≡ accepted c.value c.bound
  objects_holds K closes =
      expect-line is_objects 2 (objects_line c) from_order (λ numbers rest. cond (nat_abs (only_number numbers) == C.size) (order_step K C version 3 rest) (rejected 2 reason.Size)) objects_written refl
      ∙ ap (λ (t : Bool). cond t (order_step K C version 3 from_order) (rejected 2 reason.Size)) (eq-eqb (length c.order) C.size size_is)
      ∙ order_holds K closes

  record_lines_written : AreWritten (record_lines version c.records)
  record_lines_written = by version has_text
    where
      by : (v : CertVersion) → HasText v c → AreWritten (record_lines v c.records)
      by One has = tt
      by Two has = (count_of_records_written c.records has.0, records_written (length c.cuts) c.records holds.few_cuts holds.records_are)

  pub lines_written : AreWritten (certificate_lines version c)
  lines_written =
      let tree = AreWritten-append (tree_lines (leaf_line version c.records) c.tree) (end_line ∷ []) (tree_written C weights c.cuts c.records c.bound version leaves_are_written [] c.tree holds.tree_is) (end_written, tt) in
      let body =
      AreWritten-append (map cut_line c.cuts) from_records (cuts_written C.size c.cuts weights.within_limit holds.cuts_are holds.cuts_fit holds.cuts_shaped)
      (AreWritten-append (record_lines version c.records) from_tree record_lines_written tree) in
      (version_written version, (objects_written, (order_written, (value_written, (bound_written, (count_written, body))))))

  -- the version is read from the first line
  version_is : (v : CertVersion) → version_of (version_number v ∷ []) ≡ v
  version_is One = refl
  version_is Two = refl

  -- the text of a true certificate is accepted, with its value and bound
  pub IsCheckAnswer-certificate_text : length (certificate_text version c) ≤ 2 ^ 40 → IsCheckAnswer C (certificate_text version c) (accepted c.value c.bound)
  IsCheckAnswer-certificate_text fits K closes =
      ap (version_step K C 1) (text_lines-text (certificate_lines version c) lines_written fits)
      ∙ expect-line is_version 1 (version_line version) from_objects (λ numbers rest. objects_step K C (version_of numbers) 2 rest) (version_written version) refl
      ∙ ap (λ (v : CertVersion). objects_step K C v 2 from_objects) (version_is version)
      ∙ objects_holds K closes
