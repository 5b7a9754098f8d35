-- The lines of records, leaves and splits are read as those, and nothing else is.
use Rattle.std.proofs.Common.{◌≡◌, ℕ, ◌+◌, ◌-◌, ◌*◌, ◌^◌, ◌<◌, ◌≤◌, Bool, true, false, ◌&&◌, eqb, cond, List, [], ◌∷◌, ◌++◌, length, nat_abs, ℤ, pos, negsuc, Option, None, Some, refl, sym, ◌∙◌, ap, subst, arith}
use Rattle.std.specs.Prelude.{All, nat_le}
use Rattle.std.specs.List.{flat_map, list_all}
use Rattle.std.proofs.lemmas.Bool.{and_parts, and_from, false≢true, eqb-true, eq-eqb, leb-true, le-leb, ltb-true, lt-ltb}
use Rattle.std.proofs.lemmas.Fmt.{length_signed_le}
use Rattle.std.proofs.lemmas.List.{length-append}
use Rattle.std.proofs.lemmas.List.Elements.{All-nil, All-cons, All-head, All-tail, All-get_or}
use Rattle.lop_model.specs.declared.pair.Pair.{Pair}
use Rattle.lop_model.specs.Fixings.{IsClosure, IsUndecided}
use Rattle.lop_certtext.specs.declared.word.CertWord.TheVariants.{SplitLine}
use Rattle.lop_certtext.specs.Line.{is_count, are_counts}
use Rattle.lop_certtext.specs.Reading.{number_word}
use Rattle.lop_certtext.specs.CutLine.{numbers_of_objects, name_objects}
use Rattle.lop_cuts.specs.declared.limits.TheConstants.{MAX_SCALE, MAX_TERMS}
use Rattle.lop_certtext.specs.declared.limits.TheConstants.{MAX_CUTS}
use Rattle.lop_certtext.specs.declared.version.CertVersion.{CertVersion}
use Rattle.lop_certtext.specs.declared.version.CertVersion.TheVariants.{One, Two}
use Rattle.lop_certtext.specs.RecordLine.{CutTerm, CertRecord, numbered_record, term_numbers, record_numbers, leaf_numbers, terms_of, are_rising, is_record_row, record_of, named_of, leaf_of}
use Rattle.lop_certtext.specs.Tree.{split_line, IsRecord}
use Rattle.lop_certtext.specs.Answer.{may_split, split_of}
use Rattle.lop_certtext.proofs.PathLemmas.{undecided-may_split, may_split-undecided}
use Rattle.lop_certtext.proofs.ObjectNumbers.{one_object, name_objects-numbers}
use Rattle.lop_certtext.proofs.TreeBounds.{IsNumbered, numbered-rising}

pos_abs : (z : ℤ) → is_count z ≡ true → pos (nat_abs z) ≡ z
pos_abs (pos n) e = refl
pos_abs (negsuc n) e = absurd (false≢true e)

small_abs : (z : ℤ) → is_count z ≡ true → nat_abs z < 2 ^ 63
small_abs (pos n) e = ltb-true n (2 ^ 63) e
small_abs (negsuc n) e = absurd (false≢true e)

-- ---- terms

terms_of-numbers : (ts : List CutTerm) → terms_of (flat_map term_numbers ts) ≡ ts
terms_of-numbers [] = refl
terms_of-numbers (t ∷ ts) = ap (λ (l : List CutTerm). t ∷ l) (terms_of-numbers ts)

length-term_numbers : (ts : List CutTerm) → length (flat_map term_numbers ts) ≡ 2 * length ts
length-term_numbers [] = omega arith
length-term_numbers (t ∷ ts) = omega (arith, length-term_numbers ts)

numbers-terms_of : (ns : List ℤ) (told : ℕ) → list_all is_count ns ≡ true → length ns ≡ 2 * told → flat_map term_numbers (terms_of ns) ≡ ns
numbers-terms_of [] told e size = refl
numbers-terms_of (r ∷ []) told e size = absurd (omega arith)
numbers-terms_of (r ∷ m ∷ ns) told e size =
    let first = and_parts (is_count r) (list_all is_count (m ∷ ns)) e in
    let second = and_parts (is_count m) (list_all is_count ns) first.1 in
    ap (λ (x : ℤ). x ∷ pos (nat_abs m) ∷ flat_map term_numbers (terms_of ns)) (pos_abs r first.0)
    ∙ ap (λ (x : ℤ). r ∷ x ∷ flat_map term_numbers (terms_of ns)) (pos_abs m second.0)
    ∙ ap (λ (l : List ℤ). r ∷ m ∷ l) (numbers-terms_of ns (told - 1) second.1 (omega arith))

length-terms_of : (ns : List ℤ) (told : ℕ) → length ns ≡ 2 * told → length (terms_of ns) ≡ told
length-terms_of [] told size = omega arith
length-terms_of (r ∷ []) told size = absurd (omega arith)
length-terms_of (r ∷ m ∷ ns) told size = omega (arith, length-terms_of ns (told - 1) (omega arith))

small_multipliers : (ns : List ℤ) → list_all is_count ns ≡ true → All (λ t. t.multiplier < 2 ^ 63) (terms_of ns)
small_multipliers [] e = All-nil (λ t. t.multiplier < 2 ^ 63)
small_multipliers (r ∷ []) e = All-nil (λ t. t.multiplier < 2 ^ 63)
small_multipliers (r ∷ m ∷ ns) e =
    let first = and_parts (is_count r) (list_all is_count (m ∷ ns)) e in
    let second = and_parts (is_count m) (list_all is_count ns) first.1 in
    All-cons (λ t. t.multiplier < 2 ^ 63) (record { cut = nat_abs r; multiplier = nat_abs m }) (terms_of ns) (small_abs m second.0) (small_multipliers ns second.1)

-- ---- records

-- numbers that spell a record
pub record IsRecordRow (count : ℕ) (ns : List ℤ) (r : CertRecord) : Type 0 where
  pub numbers : record_numbers r ≡ ns
  pub is_record : IsRecord count r

module _ (count s t : ℕ) (ns : List ℤ) where
  -- the parts of the test
  record_parts : is_record_row count s t ns ≡ true → (1 ≤ s) × (s ≤ MAX_SCALE) × (t ≤ MAX_TERMS) × (length ns ≡ 2 * t) × (are_rising 0 count (terms_of ns) ≡ true)
  record_parts e =
      let first = and_parts (nat_le 1 s && nat_le s MAX_SCALE && nat_le t MAX_TERMS && eqb (length ns) (2 * t)) (are_rising 0 count (terms_of ns)) e in
      let second = and_parts (nat_le 1 s && nat_le s MAX_SCALE && nat_le t MAX_TERMS) (eqb (length ns) (2 * t)) first.0 in
      let third = and_parts (nat_le 1 s && nat_le s MAX_SCALE) (nat_le t MAX_TERMS) second.0 in
      let fourth = and_parts (nat_le 1 s) (nat_le s MAX_SCALE) third.0 in
      (leb-true 1 s fourth.0, leb-true s MAX_SCALE fourth.1, leb-true t MAX_TERMS third.1, eqb-true (length ns) (2 * t) second.1, first.1)

  record_test : 1 ≤ s → s ≤ MAX_SCALE → t ≤ MAX_TERMS → length ns ≡ 2 * t → are_rising 0 count (terms_of ns) ≡ true → is_record_row count s t ns ≡ true
  record_test a b c d e = and_from _ _ (and_from _ _ (and_from _ _ (and_from _ _ (le-leb 1 s a) (le-leb s MAX_SCALE b)) (le-leb t MAX_TERMS c)) (eq-eqb (length ns) (2 * t) d)) e

pub row-record_of : (count : ℕ) (ns : List ℤ) (r : CertRecord) → are_counts ns ≡ true → record_of count ns ≡ Some r → IsRecordRow count ns r
row-record_of count [] r row e = absurd (cc)
row-record_of count (s ∷ []) r row e = absurd (cc)
row-record_of count (s ∷ t ∷ ns) r row e = by (is_record_row count (nat_abs s) (nat_abs t) ns) refl e
  where
    by : (b : Bool) → is_record_row count (nat_abs s) (nat_abs t) ns ≡ b → cond b (Some (record { scale = nat_abs s; terms = terms_of ns })) None ≡ Some r → IsRecordRow count (s ∷ t ∷ ns) r
    by false is e = absurd (cc)
    by true is e =
        let made : CertRecord = record { scale = nat_abs s; terms = terms_of ns } in
        let same : made ≡ r = cc in
        let parts = record_parts count (nat_abs s) (nat_abs t) ns is in
        let first = and_parts (is_count s) (list_all is_count (t ∷ ns)) row in
        let second = and_parts (is_count t) (list_all is_count ns) first.1 in
        let size = length-terms_of ns (nat_abs t) parts.3 in
        subst (λ (x : CertRecord). IsRecordRow count (s ∷ t ∷ ns) x) same record {
          numbers = ap (λ (x : ℤ). x ∷ pos (length (terms_of ns)) ∷ flat_map term_numbers (terms_of ns)) (pos_abs s first.0)
              ∙ ap (λ (x : ℕ). s ∷ pos x ∷ flat_map term_numbers (terms_of ns)) size
              ∙ ap (λ (x : ℤ). s ∷ x ∷ flat_map term_numbers (terms_of ns)) (pos_abs t second.0)
              ∙ ap (λ (x : List ℤ). s ∷ t ∷ x) (numbers-terms_of ns (nat_abs t) second.1 parts.3);
          is_record = record {
            positive = parts.0;
            within_limit = parts.1;
            few = omega (arith, size, parts.2);
            rising = parts.4;
            multipliers = small_multipliers ns second.1;
          };
        }

pub record_of-numbers : (count : ℕ) (r : CertRecord) → IsRecord count r → record_of count (record_numbers r) ≡ Some r
record_of-numbers count r is =
    let ns = flat_map term_numbers r.terms in
    let t = length r.terms in
    let same = terms_of-numbers r.terms in
    let test = record_test count r.scale t ns is.positive is.within_limit is.few (length-term_numbers r.terms) (ap (are_rising 0 count) same ∙ is.rising) in
    ap (λ (b : Bool). cond {A = Option CertRecord} b (Some (record { scale = r.scale; terms = terms_of ns })) None) test
    ∙ ap (λ (x : List CutTerm). Some (record { scale = r.scale; terms = x })) same

-- ---- leaves

-- numbers that name a record of the list
pub record IsNamed (records : List CertRecord) (ns : List ℤ) (r : CertRecord) : Type 0 where
  pub number : ℕ
  pub numbers : ns ≡ pos number ∷ []
  pub from_one : 1 ≤ number
  pub within : number ≤ length records
  pub is_record : numbered_record records number ≡ r

pub row-named_of : (records : List CertRecord) (ns : List ℤ) (r : CertRecord) → are_counts ns ≡ true → named_of records ns ≡ Some r → IsNamed records ns r
row-named_of records [] r row e = absurd (cc)
row-named_of records (i ∷ j ∷ ns) r row e = absurd (cc)
row-named_of records (i ∷ []) r row e = by (nat_le 1 (nat_abs i) && nat_le (nat_abs i) (length records)) refl e
  where
    by : (b : Bool) → (nat_le 1 (nat_abs i) && nat_le (nat_abs i) (length records)) ≡ b → cond b (Some (numbered_record records (nat_abs i))) None ≡ Some r → IsNamed records (i ∷ []) r
    by false is e = absurd (cc)
    by true is e =
        let parts = and_parts (nat_le 1 (nat_abs i)) (nat_le (nat_abs i) (length records)) is in
        record {
          number = nat_abs i;
          numbers = ap (λ (x : ℤ). x ∷ []) (sym (pos_abs i (and_parts (is_count i) true row).0));
          from_one = leb-true 1 (nat_abs i) parts.0;
          within = leb-true (nat_abs i) (length records) parts.1;
          is_record = cc;
        }

-- the line of a leaf gives the record that it names
pub leaf_of-numbers : (version : CertVersion) (count : ℕ) (records : List CertRecord) (number : ℕ) → All (IsRecord count) records → 1 ≤ number → number ≤ length records
    → leaf_of version count records (leaf_numbers version records number) ≡ Some (numbered_record records number)
leaf_of-numbers One count records number right first last =
    record_of-numbers count (numbered_record records number) (All-get_or (IsRecord count) records (number - 1) (record { scale = 1; terms = [] }) (omega arith) right)
leaf_of-numbers Two count records number right first last =
    ap (λ (b : Bool). cond {A = Option CertRecord} b (Some (numbered_record records number)) None) (and_from _ _ (le-leb 1 number first) (le-leb number (length records) last))

-- ---- a record's numbers are few enough for a line

pub counts-terms : (count : ℕ) (ts : List CutTerm) → count ≤ MAX_CUTS → All (IsNumbered count) ts → All (λ t. t.multiplier < 2 ^ 63) ts → list_all is_count (flat_map term_numbers ts) ≡ true
counts-terms count [] limit numbered small = refl
counts-terms count (t ∷ ts) limit numbered small =
    let n = All-head (IsNumbered count) t ts numbered in
    let m = All-head (λ x. x.multiplier < 2 ^ 63) t ts small in
    and_from _ _ (lt-ltb t.cut (2 ^ 63) (omega (arith, n.1))) (and_from _ _ (lt-ltb t.multiplier (2 ^ 63) m) (counts-terms count ts limit (All-tail (IsNumbered count) t ts numbered) (All-tail (λ x. x.multiplier < 2 ^ 63) t ts small)))

length-term_words : (count : ℕ) (ts : List CutTerm) → count ≤ MAX_CUTS → All (IsNumbered count) ts → All (λ t. t.multiplier < 2 ^ 63) ts → length (flat_map number_word (flat_map term_numbers ts)) ≤ 30 * length ts
length-term_words count [] limit numbered small = omega arith
length-term_words count (t ∷ ts) limit numbered small =
    let n = All-head (IsNumbered count) t ts numbered in
    let m : t.multiplier < 2 ^ 63 = All-head (λ x. x.multiplier < 2 ^ 63) t ts small in
    let rest = flat_map number_word (flat_map term_numbers ts) in
    omega (
      arith,
      length-append (number_word (pos t.cut)) (number_word (pos t.multiplier) ++ rest),
      length-append (number_word (pos t.multiplier)) rest,
      length_signed_le 7 (pos t.cut) (omega (arith, n.1)) (omega (arith, n.1)),
      length_signed_le 19 (pos t.multiplier) (omega arith) (omega arith),
      length-term_words count ts limit (All-tail (IsNumbered count) t ts numbered) (All-tail (λ x. x.multiplier < 2 ^ 63) t ts small),
    )

pub counts-record : (count : ℕ) (r : CertRecord) → count ≤ MAX_CUTS → IsRecord count r → are_counts (record_numbers r) ≡ true
counts-record count r limit is =
    let scale : r.scale ≤ MAX_SCALE = is.within_limit in
    let terms : length r.terms ≤ MAX_TERMS = is.few in
    and_from _ _ (lt-ltb r.scale (2 ^ 63) (omega arith)) (and_from _ _ (lt-ltb (length r.terms) (2 ^ 63) (omega arith)) (counts-terms count r.terms limit (numbered-rising 0 count r.terms is.rising) is.multipliers))

pub length-record_words : (count : ℕ) (r : CertRecord) → count ≤ MAX_CUTS → IsRecord count r → length (flat_map number_word (record_numbers r)) ≤ 122942
length-record_words count r limit is =
    let rest = flat_map number_word (flat_map term_numbers r.terms) in
    let scale : r.scale ≤ MAX_SCALE = is.within_limit in
    let terms : length r.terms ≤ MAX_TERMS = is.few in
    omega (
      arith,
      length-append (number_word (pos r.scale)) (number_word (pos (length r.terms)) ++ rest),
      length-append (number_word (pos (length r.terms))) rest,
      length_signed_le 19 (pos r.scale) (omega arith) (omega arith),
      length_signed_le 19 (pos (length r.terms)) (omega arith) (omega arith),
      length-term_words count r.terms limit (numbered-rising 0 count r.terms is.rising) is.multipliers,
    )

-- ---- splits

pub record IsSplitLine (n : ℕ) (path : List Pair) (ns : List ℤ) (p : Pair) : Type 0 where
  pub line : split_line p ≡ record { word = SplitLine; numbers = ns }
  pub undecided : IsUndecided n path p.before p.after

pub line-split_of : (n : ℕ) (path G : List Pair) (ns : List ℤ) (p : Pair) → IsClosure path G → split_of n G ns ≡ Some p → IsSplitLine n path ns p
line-split_of n path G [] p closure e = absurd (cc)
line-split_of n path G (a ∷ []) p closure e = absurd (cc)
line-split_of n path G (a ∷ b ∷ c ∷ ns) p closure e = absurd (cc)
line-split_of n path G (a ∷ b ∷ []) p closure e = by (name_objects n (a ∷ b ∷ []) && may_split G made) refl e
  where
    made : Pair
    made = record { before = nat_abs a - 1; after = nat_abs b - 1 }

    by : (t : Bool) → (name_objects n (a ∷ b ∷ []) && may_split G made) ≡ t → cond t (Some made) None ≡ Some p → IsSplitLine n path (a ∷ b ∷ []) p
    by false is e = absurd (cc)
    by true is e =
        let same : made ≡ p = cc in
        let parts = and_parts (name_objects n (a ∷ b ∷ [])) (may_split G made) is in
        let first = and_parts _ (name_objects n (b ∷ [])) parts.0 in
        let second = and_parts _ (name_objects n []) first.1 in
        let x = one_object n a first.0 in
        let y = one_object n b second.0 in
        subst (λ (q : Pair). IsSplitLine n path (a ∷ b ∷ []) q) same record {
          line = ap (λ (z : ℤ). record { word = SplitLine; numbers = z ∷ pos ((nat_abs b - 1) + 1) ∷ [] }) x.0
              ∙ ap (λ (z : ℤ). record { word = SplitLine; numbers = a ∷ z ∷ [] }) y.0;
          undecided = undecided-may_split path G closure n made x.1 y.1 parts.1;
        }

pub split_of-line : (n : ℕ) (path G : List Pair) (p : Pair) → IsClosure path G → IsUndecided n path p.before p.after → split_of n G (split_line p).numbers ≡ Some p
split_of-line n path G p closure u =
    let before : (p.before + 1) - 1 ≡ p.before = omega arith in
    let after : (p.after + 1) - 1 ≡ p.after = omega arith in
    let ns = numbers_of_objects (p.before ∷ p.after ∷ []) in
    let at : Pair → Option Pair = λ q. cond (name_objects n ns && may_split G q) (Some q) None in
    let named : name_objects n ns ≡ true = name_objects-numbers n (p.before ∷ p.after ∷ []) (All-cons (λ x. x < n) p.before (p.after ∷ []) u.first (All-cons (λ x. x < n) p.after [] u.second (All-nil (λ x. x < n)))) in
    ap (λ (x : ℕ). at (record { before = x; after = (p.after + 1) - 1 })) before
    ∙ ap (λ (y : ℕ). at (record { before = p.before; after = y })) after
    ∙ ap (λ (t : Bool). cond {A = Option Pair} t (Some p) None) (and_from (name_objects n ns) (may_split G p) named (may_split-undecided path G closure n p u))
