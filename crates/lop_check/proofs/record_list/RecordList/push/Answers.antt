use Rattle.std.proofs.Common.{◌≡◌, ◌≤◌, ◌+◌, ◌*◌, ◌/◌, ◌∷◌, ◌++◌, [], List, ℤ, length, map, ◌∙◌, ap, sym, subst, arith}
use Rattle.lop_certtext.specs.declared.limits.TheConstants.{MAX_TOTAL_TERMS}
use Rattle.lop_certtext.specs.RecordLine.{CertRecord, term_count, terms_of}
use Rattle.lop_check.specs.declared.record_list.Span.{Span}
use Rattle.lop_check.specs.Records.{AreSpans, record_in}
use Rattle.lop_check.proofs.Charging.{length-terms_of}
use Rattle.lop_check.proofs.RecordLemmas.{AreSpans-more, AreSpans-push, on_err, records-more, records-push}
use Rattle.lop_check.proofs.record_list.RecordList.push.Goals as goal

pub invariant_of-self-in_err-push : goal.invariant_of-self-in_err-push
invariant_of-self-in_err-push c =
    let spans = c.self.inside.spans.items in
    let numbers = c.self.inside.numbers.items in
    let more = c.args.numbers.now in
    let terms = c.self.inside.terms in
    subst (λ (ns : List ℤ). AreSpans ns c.push.new.self.items terms) (sym c.in_ok-extend_from_slice.ensures.items)
    (subst (λ (l : List Span). AreSpans (numbers ++ more) l terms) (sym c.in_err-push.ensures.items) (AreSpans-more numbers more spans terms c.self.invariant))

pub returns-in_err-push-clause-unchanged : goal.returns-in_err-push-clause-unchanged
returns-in_err-push-clause-unchanged c =
    let spans = c.self.inside.spans.items in
    let numbers = c.self.inside.numbers.items in
    let more = c.args.numbers.now in
    on_err _ _
    (ap (λ (ns : List ℤ). map (record_in ns) c.push.new.self.items) c.in_ok-extend_from_slice.ensures.items
    ∙ ap (map (record_in (numbers ++ more))) c.in_err-push.ensures.items
    ∙ records-more numbers more spans c.self.invariant.within
    ∙ c.self.view_is)

pub invariant_of-self-2 : goal.invariant_of-self-2
invariant_of-self-2 c =
    let spans = c.self.inside.spans.items in
    let numbers = c.self.inside.numbers.items in
    let more = c.args.numbers.now in
    let terms = c.self.inside.terms in
    let span : Span = record { scale = c.args.scale; start = c.len-start.result; end = c.len-end.result } in
    let half = length-terms_of more c.requires.even.0 c.requires.even.1 in
    let even : length more ≡ 2 * (length more / 2) = omega (arith, c.requires.even.1) in
    let few : terms + length more / 2 ≤ MAX_TOTAL_TERMS = omega (arith, c.requires.room, c.self.invariant.terms_sum, ap term_count c.self.view_is, half, c.requires.even.1) in
    subst (λ (ns : List ℤ). AreSpans ns c.push.new.self.items (terms + length more / 2)) (sym c.in_ok-extend_from_slice.ensures.items)
    (subst (λ (l : List Span). AreSpans (numbers ++ more) l (terms + length more / 2)) (sym c.in_ok-push.ensures.items)
    (AreSpans-push numbers more spans span terms (length more / 2) c.self.invariant (omega arith) (omega (arith, c.in_ok-extend_from_slice.ensures.len)) even few))

pub returns-clause-pushed : goal.returns-clause-pushed
returns-clause-pushed c =
    let spans = c.self.inside.spans.items in
    let numbers = c.self.inside.numbers.items in
    let more = c.args.numbers.now in
    let span : Span = record { scale = c.args.scale; start = c.len-start.result; end = c.len-end.result } in
    ap (λ (ns : List ℤ). map (record_in ns) c.push.new.self.items) c.in_ok-extend_from_slice.ensures.items
    ∙ ap (map (record_in (numbers ++ more))) c.in_ok-push.ensures.items
    ∙ records-push numbers more spans span c.self.invariant.within (omega arith) (omega (arith, c.in_ok-extend_from_slice.ensures.len))
    ∙ ap (λ (rs : List CertRecord). rs ++ record { scale = c.args.scale; terms = terms_of more } ∷ []) c.self.view_is
