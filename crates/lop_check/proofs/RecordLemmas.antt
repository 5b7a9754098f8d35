-- The list of records: the numbers of their terms lie one after another.
use Rattle.std.proofs.Common.{◌≡◌, ℕ, suc, ◌+◌, ◌-◌, ◌*◌, ◌/◌, ◌≤◌, Bool, true, false, cond, List, [], ◌∷◌, ◌++◌, length, take, drop, map, ℤ, nat_abs, Option, None, Some, Ok, Err, refl, sym, ◌∙◌, ap, arith}
use Rattle.std.specs.List.{All}
use Rattle.std.specs.Prelude.{Result, OnOk, OnErr}
use Rattle.std.specs.Result.{is_ok}
use Rattle.std.proofs.lemmas.Bool.{false≢true}
use Rattle.std.proofs.lemmas.List.Elements.{All-push}
use Rattle.std.proofs.lemmas.List.{take-append-le, drop-append-le, length-drop, length-append, map_push, take_all, drop_at}
use Rattle.lop_certtext.specs.declared.limits.TheConstants.{MAX_TOTAL_TERMS}
use Rattle.lop_certtext.specs.RecordLine.{CertRecord, are_rising, term_count, terms_of, named_of, numbered_record}
use Rattle.lop_certtext.proofs.AcceptedText.{term_count-more}
use Rattle.lop_check.specs.declared.record_list.Span.{Span}
use Rattle.lop_check.specs.Records.{AreSpans, AreTerms, IsPlace, IsRecordOver, IsRow, IsWithin, is_number, record_at, record_in}
use Rattle.lop_check.proofs.Charging.{length-terms_of}

-- more numbers behind them don't change a record
record_in-more : (numbers more : List ℤ) (span : Span) → IsWithin (length numbers) span → record_in (numbers ++ more) span ≡ record_in numbers span
record_in-more numbers more span within =
    let front : take (span.end - span.start) (drop span.start numbers ++ more) ≡ take (span.end - span.start) (drop span.start numbers) = take-append-le (span.end - span.start) (drop span.start numbers) more (omega (arith, within.even, within.end, length-drop span.start numbers)) in
    ap (λ (l : List ℤ). record { scale = span.scale; terms = terms_of l }) (ap (take (span.end - span.start)) (drop-append-le span.start numbers more (omega (arith, within.even, within.end))) ∙ front)

pub records-more : (numbers more : List ℤ) (spans : List Span) → All (IsWithin (length numbers)) spans → map (record_in (numbers ++ more)) spans ≡ map (record_in numbers) spans
records-more numbers more [] within = refl
records-more numbers more (span ∷ spans) within =
    ap (λ (r : CertRecord). r ∷ map (record_in (numbers ++ more)) spans) (record_in-more numbers more span (within 0 span (omega arith)))
    ∙ ap (λ (rs : List CertRecord). record_in numbers span ∷ rs) (records-more numbers more spans (λ k d low. within (suc k) d (omega (arith, low))))

-- one record more
pub records-push : (numbers more : List ℤ) (spans : List Span) (span : Span) → All (IsWithin (length numbers)) spans → span.start ≡ length numbers → span.end ≡ length numbers + length more → map (record_in (numbers ++ more)) (spans ++ span ∷ []) ≡ map (record_in numbers) spans ++ record { scale = span.scale; terms = terms_of more } ∷ []
records-push numbers more spans span within start end =
    let rest : drop span.start (numbers ++ more) ≡ more = drop_at numbers more span.start (sym start) in
    let all : take (span.end - span.start) (drop span.start (numbers ++ more)) ≡ more = ap (take (span.end - span.start)) rest ∙ take_all (span.end - span.start) more (omega arith) in
    map_push (record_in (numbers ++ more)) spans span
    ∙ ap (λ (rs : List CertRecord). rs ++ record_in (numbers ++ more) span ∷ []) (records-more numbers more spans within)
    ∙ ap (λ (l : List ℤ). map (record_in numbers) spans ++ record { scale = span.scale; terms = terms_of l } ∷ []) all

-- the list keeps its invariant where numbers are behind it that no record has yet
pub AreSpans-more : (numbers more : List ℤ) (spans : List Span) (terms : ℕ) → AreSpans numbers spans terms → AreSpans (numbers ++ more) spans terms
AreSpans-more numbers more spans terms is = record {
  within = λ k d low. let w = is.within k d low in record { terms = w.terms; even = w.even; end = omega (arith, w.end, length-append numbers more) };
  terms_sum = is.terms_sum ∙ ap term_count (sym (records-more numbers more spans is.within));
  few = is.few;
}

-- and where a record has them
pub AreSpans-push : (numbers more : List ℤ) (spans : List Span) (span : Span) (terms t : ℕ) → AreSpans numbers spans terms → span.start ≡ length numbers → span.end ≡ length numbers + length more → length more ≡ 2 * t → terms + t ≤ MAX_TOTAL_TERMS
    → AreSpans (numbers ++ more) (spans ++ span ∷ []) (terms + t)
AreSpans-push numbers more spans span terms t is start end even few =
    let r : CertRecord = record { scale = span.scale; terms = terms_of more } in
    record {
      within = All-push (IsWithin (length (numbers ++ more))) spans span (AreSpans-more numbers more spans terms is).within (record { terms = t; even = omega (arith, start, end, even); end = omega (arith, end, length-append numbers more) });
      terms_sum = ap (λ (k : ℕ). k + t) is.terms_sum
          ∙ ap (λ (k : ℕ). term_count (map (record_in numbers) spans) + k) (sym (length-terms_of more t even))
          ∙ sym (term_count-more (map (record_in numbers) spans) r)
          ∙ ap term_count (sym (records-push numbers more spans span is.within start end));
      few = few;
    }

-- what holds on success and on failure
pub if_ok : {X E : Type 0} (r : Result X E) (P : Type 0) → is_ok r ≡ true → OnOk r P → P
if_ok (Ok x) P e h = h
if_ok (Err y) P e h = absurd (false≢true e)

pub if_err : {X E : Type 0} (r : Result X E) (P : Type 0) → is_ok r ≡ false → OnErr r P → P
if_err (Ok x) P e h = absurd (false≢true (sym e))
if_err (Err y) P e h = h

pub on_err : {X E : Type 0} (r : Result X E) (P : Type 0) → P → OnErr r P
on_err (Ok x) P h = tt
on_err (Err y) P h = h

-- how many terms the numbers of a row are
pub row_terms : (count : ℕ) (ns : List ℤ) (scale : ℕ) (terms : List ℤ) → IsRow count ns scale terms → length terms / 2 ≡ length (terms_of terms)
row_terms count ns scale terms row = omega (arith, row.are_terms.even, length-terms_of terms row.are_terms.told row.are_terms.even)

-- the numbers of a right record's terms are terms
pub terms_over : (count : ℕ) (r : CertRecord) (ns : List ℤ) (t : ℕ) → IsRecordOver count r → length ns ≡ 2 * t → terms_of ns ≡ r.terms → AreTerms count ns
terms_over count r ns t right even same = record {
  told = t;
  few = omega (arith, right.few, ap length same, length-terms_of ns t even);
  even = even;
  rising = ap (are_rising 0 count) same ∙ right.rising;
}

-- the record that one number names
pub named_one : (records : List CertRecord) (n : ℤ) (place : ℕ) → IsPlace records (nat_abs n) place → named_of records (n ∷ []) ≡ Some (record_at records place)
named_one records n place at =
    ap (λ (t : Bool). cond {A = Option CertRecord} t (Some (numbered_record records (nat_abs n))) None) at.is_one
    ∙ ap (λ (k : ℕ). Some (record_at records k)) (sym at.place_is)

pub named_none : (records : List CertRecord) (n : ℤ) → is_number records (nat_abs n) ≡ false → named_of records (n ∷ []) ≡ None
named_none records n none = ap (λ (t : Bool). cond {A = Option CertRecord} t (Some (numbered_record records (nat_abs n))) None) none
