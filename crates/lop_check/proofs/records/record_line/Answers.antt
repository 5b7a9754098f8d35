use Rattle.std.proofs.Common.{◌≡◌, ◌+◌, ◌∷◌, ◌∙◌, [], ◌++◌, ℕ, None, Some, true, false, length, ap, sym, subst, arith, rules}
use Rattle.std.specs.Prelude.{nat_le}
use Rattle.std.specs.Result.{is_ok}
use Rattle.std.proofs.lemmas.Bool.{leb-true}
use Rattle.std.proofs.lemmas.List.Elements.{All-push}
use Rattle.lop_certtext.specs.declared.reason.Reason.TheVariants as reason
use Rattle.lop_certtext.specs.declared.limits.TheConstants.{MAX_TOTAL_TERMS}
use Rattle.lop_certtext.specs.RecordLine.{CertRecord, record_of, terms_of, term_count}
use Rattle.lop_check.specs.declared.verdict.Verdict.TheVariants as verdict
use Rattle.lop_check.specs.Records.{AreRecords, IsRecordOver}
use Rattle.lop_check.proofs.Charging.{length-terms_of}
use Rattle.lop_check.proofs.RecordLemmas.{if_ok, if_err, row_terms}
use Rattle.lop_check.proofs.Walk.{exits, fails, passes, says}
use Rattle.lop_check.proofs.TreeWalk.{record_next, record_not, record_over, record_more}
use Rattle.lop_check.proofs.records.record_line.Goals as goal

pub returns-in_err-expect-clause-stops : goal.returns-in_err-expect-clause-stops
returns-in_err-expect-clause-stops g c = exits _ _ _ c.from_residual.ensures.1 (λ C value bound more. c.in_err-expect.ensures.stops (record_next C c.args.cuts.now value bound more c.args.records.now))

pub returns-in_default-clause-stops : goal.returns-in_default-clause-stops
returns-in_default-clause-stops g c C value bound more =
    let ns = c.expect.new.self.numbers in
    let k = c.expect.new.self.number in
    let none : record_of (length c.args.cuts.now) ns ≡ None = rw c.numbers.ensures at c.in_default.ensures in
    fails _ _ _ _ _ k reason.RecordLine c.rejected.ensures (λ rest. record_not C c.args.cuts.now value bound more c.args.records.now k ns rest none) (c.in_ok-expect.ensures.goes (record_next C c.args.cuts.now value bound more c.args.records.now))

pub returns-then-not-has_room-clause-stops : goal.returns-then-not-has_room-clause-stops
returns-then-not-has_room-clause-stops g c C value bound more =
    let ns = c.expect.new.self.numbers in
    let k = c.expect.new.self.number in
    let r : CertRecord = record { scale = c.in-Some.scale; terms = terms_of c.in-Some.terms.now } in
    let read : record_of (length c.args.cuts.now) ns ≡ Some r = rw c.numbers.ensures at c.in-Some.ensures.read in
    let half = row_terms _ _ _ _ c.in-Some.ensures in
    let over : nat_le (term_count c.args.records.now + length r.terms) MAX_TOTAL_TERMS ≡ false = ap (λ (t : ℕ). nat_le (term_count c.args.records.now + t) MAX_TOTAL_TERMS) (sym half) ∙ sym c.has_room.ensures ∙ c.if-not-has_room.true in
    fails _ _ _ _ _ k reason.RecordLine c.rejected-then-not-has_room.ensures (λ rest. record_over C c.args.cuts.now value bound more c.args.records.now k ns r rest read over) (c.in_ok-expect.ensures.goes (record_next C c.args.cuts.now value bound more c.args.records.now))

pub push-requires-clause-room : goal.push-requires-clause-room
push-requires-clause-room g c =
    let half = row_terms _ _ _ _ c.in-Some.ensures in
    leb-true (term_count c.args.records.now + length (terms_of c.in-Some.terms.now)) MAX_TOTAL_TERMS (ap (λ (t : ℕ). nat_le (term_count c.args.records.now + t) MAX_TOTAL_TERMS) (sym half) ∙ sym c.has_room.ensures ∙ c.if-not-has_room.false)

pub returns-then-is_err-clause-stops : goal.returns-then-is_err-clause-stops
returns-then-is_err-clause-stops g c C value bound more =
    says _ _ _ _ verdict.Memory (λ lines. tt) tt (c.in_ok-expect.ensures.goes (record_next C c.args.cuts.now value bound more c.args.records.now))

pub returns-then-is_err-clause-right : goal.returns-then-is_err-clause-right
returns-then-is_err-clause-right g c =
    let failed : is_ok c.push.result ≡ false = search rules in
    subst (AreRecords (length c.args.cuts.now)) (sym (if_err c.push.result _ failed c.push.ensures.unchanged)) c.requires.right

pub returns-clause-goes : goal.returns-clause-goes
returns-clause-goes g c C value bound more =
    let ns = c.expect.new.self.numbers in
    let k = c.expect.new.self.number in
    let r : CertRecord = record { scale = c.in-Some.scale; terms = terms_of c.in-Some.terms.now } in
    let read : record_of (length c.args.cuts.now) ns ≡ Some r = rw c.numbers.ensures at c.in-Some.ensures.read in
    let half = row_terms _ _ _ _ c.in-Some.ensures in
    let within : nat_le (term_count c.args.records.now + length r.terms) MAX_TOTAL_TERMS ≡ true = ap (λ (t : ℕ). nat_le (term_count c.args.records.now + t) MAX_TOTAL_TERMS) (sym half) ∙ sym c.has_room.ensures ∙ c.if-not-has_room.false in
    let ok : is_ok c.push.result ≡ true = search rules in
    let pushed : c.push.new.self ≡ c.args.records.now ++ r ∷ [] = if_ok c.push.result _ ok c.push.ensures.pushed in
    passes _ _ _ _ _ (λ rest. record_more C c.args.cuts.now value bound more c.args.records.now c.push.new.self k ns r rest read within pushed) (c.in_ok-expect.ensures.goes (record_next C c.args.cuts.now value bound more c.args.records.now))

pub returns-clause-right : goal.returns-clause-right
returns-clause-right g c =
    let r : CertRecord = record { scale = c.in-Some.scale; terms = terms_of c.in-Some.terms.now } in
    let row = c.in-Some.ensures in
    let ok : is_ok c.push.result ≡ true = search rules in
    let pushed : c.push.new.self ≡ c.args.records.now ++ r ∷ [] = if_ok c.push.result _ ok c.push.ensures.pushed in
    let is : IsRecordOver (length c.args.cuts.now) r = record {
      within_limit = row.within_limit;
      few = omega (arith, length-terms_of c.in-Some.terms.now row.are_terms.told row.are_terms.even, row.are_terms.few);
      rising = row.are_terms.rising;
    } in
    subst (AreRecords (length c.args.cuts.now)) (sym pushed) (All-push (IsRecordOver (length c.args.cuts.now)) c.args.records.now r c.requires.right is)
