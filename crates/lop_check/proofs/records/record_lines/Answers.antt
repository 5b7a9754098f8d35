use Rattle.std.proofs.Common.{◌≡◌, ◌<◌, ◌≤◌, ◌+◌, ◌-◌, ◌∙◌, [], ℕ, length, nat_abs, ap, arith, rules, w64, FitsSigned}
use Rattle.std.proofs.lemmas.Int.{to_z-of_z}
use Rattle.lop_model.specs.Closing.{closed}
use Rattle.lop_certtext.specs.declared.version.CertVersion.TheVariants.{Two}
use Rattle.lop_certtext.specs.Answer.{only_number, too_long, records_left_step}
use Rattle.lop_check.proofs.Walk.{exits, passes, then_ends, then_on}
use Rattle.lop_check.proofs.Steps.{records_next}
use Rattle.lop_check.proofs.TreeWalk.{is_two, no_record_left, no_record_yet, records_due}
use Rattle.lop_check.proofs.records.record_lines.Goals as goal

pub returns-in_err-expect-clause-stops : goal.returns-in_err-expect-clause-stops
returns-in_err-expect-clause-stops g c =
    let two : c.args.claim.version ≡ Two = is_two c.args.claim.version _ c.eq.ensures c.if-eq.false in
    exits _ _ _ c.from_residual.ensures.1 (λ C. rw two (c.in_err-expect.ensures.stops (records_next C c.args.cuts.now c.args.claim.value c.args.claim.bound)))

pub lines-init : goal.lines-init
lines-init g c =
    let ns = c.expect.new.self.numbers in
    let k = c.expect.new.self.number in
    let fits : FitsSigned w64 c.only_number.result = search rules in
    let read : c.unsigned_abs-count.result ≡ nat_abs (only_number ns) = c.unsigned_abs-count.ensures.value ∙ ap nat_abs (to_z-of_z w64 c.only_number.result fits ∙ c.only_number.ensures) in
    record {
      right = λ i d low. absurd (omega (arith, low, ap length c.requires.none));
      reading_is = (c.in_ok-expect.ensures.goes (λ _ _ _. too_long)).reading;
      so_far = λ C. passes _ _ _ _ _ (λ lines. no_record_yet C c.args.cuts.now c.args.claim.value c.args.claim.bound (nat_abs (only_number ns)) c.unsigned_abs-count.result (k + 1) c.args.records.now lines read c.requires.none) (c.in_ok-expect.ensures.goes (records_next C c.args.cuts.now c.args.claim.value c.args.claim.bound));
    }

pub lines-preserved : goal.lines-preserved
lines-preserved g c =
    let cuts = c.args.cuts.now in
    let value = c.args.claim.value in
    let bound = c.args.claim.bound in
    let records = c.lines.records in
    let count = c.unsigned_abs-count.result in
    let less : length records < count = omega (arith, c.lines-test.true, c.len.ensures) in
    let left : count - (length records + 1) ≡ count - length c.record_line.new.records = omega (arith, c.in_ok-record_line.ensures.one) in
    record {
      right = c.in_ok-record_line.ensures.right;
      reading_is = (c.in_ok-record_line.ensures.goes (record { size = 0; rows = [] }) value bound 0).reading;
      so_far = λ C. then_on _ _ _ _ _ _ (passes _ _ _ _ _ (λ lines. records_due C cuts value bound count records (c.lines.reading.number + 1) lines less) (c.lines.invariant.so_far C))
          (passes _ _ _ _ _ (λ lines. ap (λ (m : ℕ). records_left_step closed C cuts value bound m c.record_line.new.records (c.record_line.new.reading.number + 1) lines) left) (c.in_ok-record_line.ensures.goes C value bound (count - (length records + 1))));
    }

pub returns-in_err-record_line-clause-stops : goal.returns-in_err-record_line-clause-stops
returns-in_err-record_line-clause-stops g c =
    let two : c.args.claim.version ≡ Two = is_two c.args.claim.version _ c.eq.ensures c.if-eq.false in
    let cuts = c.args.cuts.now in
    let value = c.args.claim.value in
    let bound = c.args.claim.bound in
    let records = c.lines.records in
    let count = c.unsigned_abs-count.result in
    let less : length records < count = omega (arith, c.lines-test.true, c.len.ensures) in
    exits _ _ _ c.from_residual-in_err-record_line.ensures.1 (λ C. rw two (then_ends _ _ _ _ _ _
    (passes _ _ _ _ _ (λ lines. records_due C cuts value bound count records (c.lines.reading.number + 1) lines less) (c.lines.invariant.so_far C))
    (c.in_err-record_line.ensures.stops C value bound (count - (length records + 1)))))

pub returns-clause-goes : goal.returns-clause-goes
returns-clause-goes g c C =
    let two : c.args.claim.version ≡ Two = is_two c.args.claim.version _ c.eq.ensures c.if-eq.false in
    let records = c.lines.records in
    let count = c.unsigned_abs-count.result in
    let all : count ≤ length records = omega (arith, c.lines-test.false, c.len.ensures) in
    rw two (passes _ _ _ _ _ (λ lines. no_record_left C c.args.cuts.now c.args.claim.value c.args.claim.bound count records (c.lines.reading.number + 1) lines all) (c.lines.invariant.so_far C))
