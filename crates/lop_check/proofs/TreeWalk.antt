-- The walk over the lines of the cuts and of the tree.
use Rattle.std.proofs.Common.{◌≡◌, ℕ, suc, ◌+◌, ◌-◌, ◌<◌, ◌≤◌, Bool, true, false, cond, List, [], ◌∷◌, ◌++◌, length, ℤ, Option, None, Some, refl, sym, ◌∙◌, ap, subst, arith}
use Rattle.std.specs.Prelude.{nat_le}
use Rattle.std.proofs.lemmas.Bool.{false≢true}
use Rattle.std.proofs.lemmas.List.{length_push}
use Rattle.lop_model.specs.declared.pair.Pair.{Pair}
use Rattle.lop_model.specs.Matrix.{Matrix}
use Rattle.lop_cuts.specs.declared.kind.CutKind.{CutKind}
use Rattle.lop_certtext.specs.declared.reason.Reason.{Reason}
use Rattle.lop_certtext.specs.declared.reason.Reason.TheVariants as reason
use Rattle.lop_certtext.specs.declared.word.CertWord.{CertWord}
use Rattle.lop_certtext.specs.declared.version.CertVersion.{CertVersion}
use Rattle.lop_certtext.specs.declared.version.CertVersion.TheVariants.{One, Two}
use Rattle.lop_certtext.specs.contracts.version.CertVersion.{the_type}
use denote.Enum.Bare.{sameb}
use Rattle.lop_certtext.specs.declared.limits.TheConstants.{MAX_TOTAL_TERMS}
use Rattle.lop_certtext.specs.Line.{CertLine}
use Rattle.lop_certtext.specs.RecordLine.{CertRecord, if_within, leaf_of, record_of, term_count}
use Rattle.lop_model.specs.Closing.{closed}
use Rattle.lop_certtext.specs.Answer.{TextLine, ended_line, unended_line, long_line, long_file, CheckAnswer, rejected, spelled, node_step, tree_step, cut_step, cuts_left_step, with_record, records_step, records_left_step}
use Rattle.lop_check.specs.declared.verdict.Verdict.{Verdict}
use Rattle.lop_check.specs.declared.verdict.Verdict.TheVariants as verdict
use Rattle.lop_check.specs.TreePlace.{TreePlace, pending, pending_if}
use Rattle.lop_check.specs.Walk.{Spot, ReadsOn, EndsCheck}
use Rattle.lop_check.proofs.Walk.{passes, begins, begins_end, fails, then_on, then_ends}

-- a line of the tree, and then the rest
abbrev pub node_then : Matrix → List CutKind → (List ℤ → Option CertRecord) → ℤ → ℤ → List Pair → List (List Pair) → ℕ → CertLine → List TextLine → CheckAnswer
node_then C cuts L value bound path others number line rest =
    node_step C cuts L bound (closed path) path others number line.word line.numbers (λ left. tree_step closed C cuts L value bound left (number + 1) rest)

tree_spelled : (C : Matrix) (cuts : List CutKind) (L : List ℤ → Option CertRecord) (value bound : ℤ) (path : List Pair) (others : List (List Pair)) (number : ℕ) (lines : List TextLine) → tree_step closed C cuts L value bound (path ∷ others) number lines ≡ spelled number lines (node_then C cuts L value bound path others number)
tree_spelled C cuts L value bound path others number [] = refl
tree_spelled C cuts L value bound path others number (long_file ∷ lines) = refl
tree_spelled C cuts L value bound path others number (long_line ∷ lines) = refl
tree_spelled C cuts L value bound path others number (ended_line bytes ∷ lines) = refl
tree_spelled C cuts L value bound path others number (unended_line bytes ∷ lines) = refl

-- the line of a node, by its number before it was read and after it
pub node_goes : (C : Matrix) (cuts : List CutKind) (L : List ℤ → Option CertRecord) (value bound : ℤ) (at : TreePlace) (left : List (List Pair)) (number same : ℕ) (a b : Spot) (word : CertWord) (numbers : List ℤ)
    → ReadsOn a b (λ lines. spelled number lines (node_then C cuts L value bound at.path at.others number)) (node_then C cuts L value bound at.path at.others same (record { word = word; numbers = numbers }))
    → ((next : List (List Pair) → CheckAnswer) → node_step C cuts L bound (closed at.path) at.path at.others same word numbers next ≡ next left)
    → ReadsOn a b (tree_step closed C cuts L value bound (pending at) number) (tree_step closed C cuts L value bound left (same + 1))
node_goes C cuts L value bound at left number same a b word numbers reads goes =
    begins a b (λ lines. spelled number lines (node_then C cuts L value bound at.path at.others number)) (tree_step closed C cuts L value bound (pending at) number) (tree_step closed C cuts L value bound left (same + 1)) (tree_spelled C cuts L value bound at.path at.others number)
    (passes a b (λ lines. spelled number lines (node_then C cuts L value bound at.path at.others number)) (node_then C cuts L value bound at.path at.others same (record { word = word; numbers = numbers })) (tree_step closed C cuts L value bound left (same + 1)) (λ rest. goes (λ l. tree_step closed C cuts L value bound l (same + 1) rest)) reads)

pub node_stops : (C : Matrix) (cuts : List CutKind) (L : List ℤ → Option CertRecord) (value bound : ℤ) (at : TreePlace) (number : ℕ) (a b : Spot) (v : Verdict) → EndsCheck a b (λ lines. spelled number lines (node_then C cuts L value bound at.path at.others number)) v → EndsCheck a b (tree_step closed C cuts L value bound (pending at) number) v
node_stops C cuts L value bound at number a b v stops =
    begins_end a b (λ lines. spelled number lines (node_then C cuts L value bound at.path at.others number)) (tree_step closed C cuts L value bound (pending at) number) v (tree_spelled C cuts L value bound at.path at.others number) stops

-- the test of a node's line says this of what it was told; it says the same by other names
retold : (P : ℤ → List Pair → List ℤ → Type 0) (b b2 : ℤ) (G G2 : List Pair) (ns ns2 : List ℤ) → b ≡ b2 → G ≡ G2 → ns ≡ ns2 → P b G ns → P b2 G2 ns2
retold P b b2 G G2 ns ns2 eb eg es h = subst (λ (x : List ℤ). P b2 G2 x) es (subst (λ (x : List Pair). P b2 x ns) eg (subst (λ (x : ℤ). P x G ns) eb h))

-- a line that passes its test
pub node_passed : (C : Matrix) (cuts left_cuts : List CutKind) (L left_L : List ℤ → Option CertRecord) (value bound told_bound : ℤ) (G : List Pair) (at : TreePlace) (left : List (List Pair)) (number same : ℕ) (a b : Spot) (word : CertWord) (numbers told_numbers : List ℤ)
    → left_cuts ≡ cuts → left_L ≡ L → told_bound ≡ bound → G ≡ closed at.path → told_numbers ≡ numbers
    → ReadsOn a b (λ lines. spelled number lines (node_then C cuts L value bound at.path at.others number)) (node_then C cuts L value bound at.path at.others same (record { word = word; numbers = numbers }))
    → ((k : ℕ) (next : List (List Pair) → CheckAnswer) → node_step C cuts L told_bound G at.path at.others k word told_numbers next ≡ next left)
    → ReadsOn a b (tree_step closed C cuts L value bound (pending at) number) (tree_step closed C left_cuts left_L value bound left (same + 1))
node_passed C cuts left_cuts L left_L value bound told_bound G at left number same a b word numbers told_numbers ec el eb eg es reads goes =
    subst (λ (l : List CutKind). ReadsOn a b (tree_step closed C cuts L value bound (pending at) number) (tree_step closed C l left_L value bound left (same + 1))) (sym ec)
    (subst (λ (f : List ℤ → Option CertRecord). ReadsOn a b (tree_step closed C cuts L value bound (pending at) number) (tree_step closed C cuts f value bound left (same + 1))) (sym el)
    (node_goes C cuts L value bound at left number same a b word numbers reads
    (retold (λ (x : ℤ) (H : List Pair) (ns : List ℤ). (next : List (List Pair) → CheckAnswer) → node_step C cuts L x H at.path at.others same word ns next ≡ next left) told_bound bound G (closed at.path) told_numbers numbers eb eg es (goes same))))

-- a line that fails it
pub node_failed : (C : Matrix) (cuts : List CutKind) (L : List ℤ → Option CertRecord) (value bound told_bound : ℤ) (G : List Pair) (at : TreePlace) (number same : ℕ) (a b : Spot) (word : CertWord) (numbers told_numbers : List ℤ) (v : Verdict) (why : Reason)
    → told_bound ≡ bound → G ≡ closed at.path → told_numbers ≡ numbers → v ≡ verdict.Rejected same why
    → ReadsOn a b (λ lines. spelled number lines (node_then C cuts L value bound at.path at.others number)) (node_then C cuts L value bound at.path at.others same (record { word = word; numbers = numbers }))
    → ((k : ℕ) (next : List (List Pair) → CheckAnswer) → node_step C cuts L told_bound G at.path at.others k word told_numbers next ≡ rejected k why)
    → EndsCheck a b (tree_step closed C cuts L value bound (pending at) number) v
node_failed C cuts L value bound told_bound G at number same a b word numbers told_numbers v why eb eg es is reads stops =
    node_stops C cuts L value bound at number a b v
    (fails a b (λ lines. spelled number lines (node_then C cuts L value bound at.path at.others number)) (node_then C cuts L value bound at.path at.others same (record { word = word; numbers = numbers })) v same why is
    (λ rest. retold (λ (x : ℤ) (H : List Pair) (ns : List ℤ). (next : List (List Pair) → CheckAnswer) → node_step C cuts L x H at.path at.others same word ns next ≡ rejected same why) told_bound bound G (closed at.path) told_numbers numbers eb eg es (stops same) (λ l. tree_step closed C cuts L value bound l (same + 1) rest)) reads)

pub left_if : (b : Bool) (at : TreePlace) → b ≡ true → pending_if b at ≡ pending at
left_if b at e = ap (λ (t : Bool). pending_if t at) e

pub left_none : (b : Bool) (at : TreePlace) → b ≡ false → pending_if b at ≡ []
left_none b at e = ap (λ (t : Bool). pending_if t at) e

-- ---- cuts

-- the line of a cut, and then so many less
abbrev pub cut_then : Matrix → CertVersion → ℤ → ℤ → ℕ → List CutKind → ℕ → CutKind → List TextLine → CheckAnswer
cut_then C version value bound more cuts number cut rest = cuts_left_step closed C version value bound more (cuts ++ cut ∷ []) (number + 1) rest

pub left_is : (C : Matrix) (version : CertVersion) (value bound : ℤ) (count done : ℕ) (cuts : List CutKind) (number : ℕ) (lines : List TextLine) → done < count → cuts_left_step closed C version value bound (count - done) cuts number lines ≡ spelled number lines (λ line rest. cut_step C.size number line.word line.numbers (λ cut. cut_then C version value bound (count - (done + 1)) cuts number cut rest))
left_is C version value bound count done cuts number lines less =
    let one : count - done ≡ suc (count - (done + 1)) = omega arith in
    ap (λ (k : ℕ). cuts_left_step closed C version value bound k cuts number lines) one

left_of : (C : Matrix) (version : CertVersion) (value bound : ℤ) (count n : ℕ) (cuts : List CutKind) (number : ℕ) (lines : List TextLine) → length cuts < count → n ≡ C.size
    → cuts_left_step closed C version value bound (count - length cuts) cuts number lines ≡ spelled number lines (λ line rest. cut_step n number line.word line.numbers (λ cut. cut_then C version value bound (count - (length cuts + 1)) cuts number cut rest))
left_of C version value bound count n cuts number lines less size =
    left_is C version value bound count (length cuts) cuts number lines less
    ∙ ap (λ (m : ℕ). spelled number lines (λ line rest. cut_step m number line.word line.numbers (λ cut. cut_then C version value bound (count - (length cuts + 1)) cuts number cut rest))) (sym size)

-- all cuts are there
pub none_left : (C : Matrix) (version : CertVersion) (value bound : ℤ) (count done : ℕ) (cuts : List CutKind) (number : ℕ) (lines : List TextLine) → count ≤ done → cuts_left_step closed C version value bound (count - done) cuts number lines ≡ records_step closed C version cuts value bound number lines
none_left C version value bound count done cuts number lines all =
    let none : count - done ≡ 0 = omega arith in
    ap (λ (k : ℕ). cuts_left_step closed C version value bound k cuts number lines) none

-- one more cut is read
pub cut_on : (C : Matrix) (version : CertVersion) (value bound : ℤ) (count n : ℕ) (cuts : List CutKind) (cut : CutKind) (a b c : Spot) (whole : List TextLine → CheckAnswer) (number same : ℕ) → length cuts < count → n ≡ C.size → ReadsOn a b whole (cuts_left_step closed C version value bound (count - length cuts) cuts number)
    → ReadsOn b c (λ lines. spelled number lines (λ line rest. cut_step n number line.word line.numbers (λ x. cut_then C version value bound (count - (length cuts + 1)) cuts number x rest))) (cut_then C version value bound (count - (length cuts + 1)) cuts same cut)
    → ReadsOn a c whole (cut_then C version value bound (count - (length cuts + 1)) cuts same cut)
cut_on C version value bound count n cuts cut a b c whole number same less size x y =
    then_on a b c whole (λ lines. spelled number lines (λ line rest. cut_step n number line.word line.numbers (λ x. cut_then C version value bound (count - (length cuts + 1)) cuts number x rest))) (cut_then C version value bound (count - (length cuts + 1)) cuts same cut)
    (passes a b whole (cuts_left_step closed C version value bound (count - length cuts) cuts number) (λ lines. spelled number lines (λ line rest. cut_step n number line.word line.numbers (λ x. cut_then C version value bound (count - (length cuts + 1)) cuts number x rest))) (λ lines. left_of C version value bound count n cuts number lines less size) x) y

-- the list has it from then on
pub cut_more : (C : Matrix) (version : CertVersion) (value bound : ℤ) (count : ℕ) (cuts pushed : List CutKind) (cut : CutKind) (a c : Spot) (whole : List TextLine → CheckAnswer) (same : ℕ) → pushed ≡ cuts ++ cut ∷ [] → ReadsOn a c whole (cut_then C version value bound (count - (length cuts + 1)) cuts same cut)
    → ReadsOn a c whole (cuts_left_step closed C version value bound (count - length pushed) pushed (same + 1))
cut_more C version value bound count cuts pushed cut a c whole same is x =
    let longer : count - (length cuts + 1) ≡ count - length (cuts ++ cut ∷ []) = omega (arith, length_push cuts cut) in
    passes a c whole (cut_then C version value bound (count - (length cuts + 1)) cuts same cut) (cuts_left_step closed C version value bound (count - length pushed) pushed (same + 1))
    (λ lines. ap (λ (k : ℕ). cuts_left_step closed C version value bound k (cuts ++ cut ∷ []) (same + 1) lines) longer ∙ ap (λ (l : List CutKind). cuts_left_step closed C version value bound (count - length l) l (same + 1) lines) (sym is)) x

pub cut_ends : (C : Matrix) (version : CertVersion) (value bound : ℤ) (count n : ℕ) (cuts : List CutKind) (a b c : Spot) (whole : List TextLine → CheckAnswer) (number : ℕ) (v : Verdict) → length cuts < count → n ≡ C.size → ReadsOn a b whole (cuts_left_step closed C version value bound (count - length cuts) cuts number)
    → EndsCheck b c (λ lines. spelled number lines (λ line rest. cut_step n number line.word line.numbers (λ x. cut_then C version value bound (count - (length cuts + 1)) cuts number x rest))) v → EndsCheck a c whole v
cut_ends C version value bound count n cuts a b c whole number v less size x y =
    then_ends a b c whole (λ lines. spelled number lines (λ line rest. cut_step n number line.word line.numbers (λ x. cut_then C version value bound (count - (length cuts + 1)) cuts number x rest))) v
    (passes a b whole (cuts_left_step closed C version value bound (count - length cuts) cuts number) (λ lines. spelled number lines (λ line rest. cut_step n number line.word line.numbers (λ x. cut_then C version value bound (count - (length cuts + 1)) cuts number x rest))) (λ lines. left_of C version value bound count n cuts number lines less size) x) y

-- no cut is there yet
pub none_yet : (C : Matrix) (version : CertVersion) (value bound : ℤ) (told count number : ℕ) (cuts : List CutKind) (lines : List TextLine) → count ≡ told → cuts ≡ [] → cuts_left_step closed C version value bound told [] number lines ≡ cuts_left_step closed C version value bound (count - length cuts) cuts number lines
none_yet C version value bound told count number cuts lines is none =
    let all : told ≡ count - length cuts = omega (arith, is, ap length none) in
    ap (λ (k : ℕ). cuts_left_step closed C version value bound k [] number lines) all ∙ ap (λ (l : List CutKind). cuts_left_step closed C version value bound (count - length cuts) l number lines) (sym none)

-- ---- records

-- so many records less one, where one is due
pub records_due : (C : Matrix) (cuts : List CutKind) (value bound : ℤ) (count : ℕ) (records : List CertRecord) (number : ℕ) (lines : List TextLine) → length records < count
    → records_left_step closed C cuts value bound (count - length records) records number lines ≡ records_left_step closed C cuts value bound (suc (count - (length records + 1))) records number lines
records_due C cuts value bound count records number lines less =
    let one : count - length records ≡ suc (count - (length records + 1)) = omega arith in
    ap (λ (k : ℕ). records_left_step closed C cuts value bound k records number lines) one

-- all records are there
pub no_record_left : (C : Matrix) (cuts : List CutKind) (value bound : ℤ) (count : ℕ) (records : List CertRecord) (number : ℕ) (lines : List TextLine) → count ≤ length records
    → records_left_step closed C cuts value bound (count - length records) records number lines ≡ tree_step closed C cuts (leaf_of Two (length cuts) records) value bound ([] ∷ []) number lines
no_record_left C cuts value bound count records number lines all =
    let none : count - length records ≡ 0 = omega arith in
    ap (λ (k : ℕ). records_left_step closed C cuts value bound k records number lines) none

-- no record is there yet
pub no_record_yet : (C : Matrix) (cuts : List CutKind) (value bound : ℤ) (told count number : ℕ) (records : List CertRecord) (lines : List TextLine) → count ≡ told → records ≡ []
    → records_left_step closed C cuts value bound told [] number lines ≡ records_left_step closed C cuts value bound (count - length records) records number lines
no_record_yet C cuts value bound told count number records lines is none =
    let all : told ≡ count - length records = omega (arith, is, ap length none) in
    ap (λ (k : ℕ). records_left_step closed C cuts value bound k [] number lines) all ∙ ap (λ (l : List CertRecord). records_left_step closed C cuts value bound (count - length records) l number lines) (sym none)

-- the line of a record, and then so many less
abbrev pub record_next : Matrix → List CutKind → ℤ → ℤ → ℕ → List CertRecord → ℕ → List ℤ → List TextLine → CheckAnswer
record_next C cuts value bound more records number numbers rest =
    with_record number (if_within records (record_of (length cuts) numbers)) (λ r. records_left_step closed C cuts value bound more (records ++ r ∷ []) (number + 1) rest)

-- its numbers are no record
pub record_not : (C : Matrix) (cuts : List CutKind) (value bound : ℤ) (more : ℕ) (records : List CertRecord) (number : ℕ) (numbers : List ℤ) (rest : List TextLine) → record_of (length cuts) numbers ≡ None → record_next C cuts value bound more records number numbers rest ≡ rejected number reason.RecordLine
record_not C cuts value bound more records number numbers rest e =
    ap (λ (o : Option CertRecord). with_record number (if_within records o) (λ r. records_left_step closed C cuts value bound more (records ++ r ∷ []) (number + 1) rest)) e

-- there are too many terms with it
pub record_over : (C : Matrix) (cuts : List CutKind) (value bound : ℤ) (more : ℕ) (records : List CertRecord) (number : ℕ) (numbers : List ℤ) (r : CertRecord) (rest : List TextLine) → record_of (length cuts) numbers ≡ Some r → nat_le (term_count records + length r.terms) MAX_TOTAL_TERMS ≡ false → record_next C cuts value bound more records number numbers rest ≡ rejected number reason.RecordLine
record_over C cuts value bound more records number numbers r rest e over =
    ap (λ (o : Option CertRecord). with_record number (if_within records o) (λ x. records_left_step closed C cuts value bound more (records ++ x ∷ []) (number + 1) rest)) e
    ∙ ap (λ (t : Bool). with_record number (cond {A = Option CertRecord} t (Some r) None) (λ x. records_left_step closed C cuts value bound more (records ++ x ∷ []) (number + 1) rest)) over

-- the list has it from then on
pub record_more : (C : Matrix) (cuts : List CutKind) (value bound : ℤ) (more : ℕ) (records pushed : List CertRecord) (number : ℕ) (numbers : List ℤ) (r : CertRecord) (rest : List TextLine) → record_of (length cuts) numbers ≡ Some r → nat_le (term_count records + length r.terms) MAX_TOTAL_TERMS ≡ true → pushed ≡ records ++ r ∷ [] → record_next C cuts value bound more records number numbers rest ≡ records_left_step closed C cuts value bound more pushed (number + 1) rest
record_more C cuts value bound more records pushed number numbers r rest e within is =
    ap (λ (o : Option CertRecord). with_record number (if_within records o) (λ x. records_left_step closed C cuts value bound more (records ++ x ∷ []) (number + 1) rest)) e
    ∙ ap (λ (t : Bool). with_record number (cond {A = Option CertRecord} t (Some r) None) (λ x. records_left_step closed C cuts value bound more (records ++ x ∷ []) (number + 1) rest)) within
    ∙ ap (λ (l : List CertRecord). records_left_step closed C cuts value bound more l (number + 1) rest) (sym is)

-- ---- versions

pub is_one : (v : CertVersion) (found : Bool) → found ≡ sameb the_type v One → found ≡ true → v ≡ One
is_one One found is so = refl
is_one Two found is so = absurd (false≢true (sym is ∙ so))

pub is_two : (v : CertVersion) (found : Bool) → found ≡ sameb the_type v One → found ≡ false → v ≡ Two
is_two One found is so = absurd (false≢true (sym so ∙ is))
is_two Two found is so = refl
