use Rattle.std.proofs.Common.{◌≡◌, ◌∙◌, [], refl, ap, sym, subst, arith, rules, ℕ, ℤ, List, length, get_or, pos, nat_abs, Some, w64, FitsSigned}
use Rattle.std.specs.Int.{w128}
use Rattle.std.proofs.lemmas.Int.{to_z-of_z}
use Rattle.lop_model.proofs.CellLemmas.{put_back}
use Rattle.lop_cuts.specs.declared.kind.CutKind.{CutKind}
use Rattle.lop_cuts.specs.Lagrangian.{lagrangian_value}
use Rattle.lop_certtext.specs.RecordLine.{CutTerm, named_of, terms_in, terms_of}
use Rattle.lop_certtext.specs.Answer.{leaf_value}
use Rattle.lop_check.specs.Records.{AreTerms, IsPlace, IsRecordOver, record_at}
use Rattle.lop_check.proofs.NodeLemmas.{one_front}
use Rattle.lop_check.proofs.RecordLemmas.{named_one, terms_over}
use Rattle.lop_check.proofs.node.shown_by_number.Goals as goal

pub upper-upper-requires-clause-row : goal.upper-upper-requires-clause-row
upper-upper-requires-clause-row c =
    let old = c.args.proof.now in
    let cuts = old.cuts.items in
    let place = c.in_ok-place-in-len1.place in
    let r = record_at old.records place in
    let right : IsRecordOver (length cuts) r = c.requires.records place (record { scale = 1; terms = [] }) c.in_ok-place-in-len1.ensures.within in (
      omega (arith, c.scale-scale.ensures, right.within_limit),
      subst (λ (k : ℕ). AreTerms k c.terms.result.now) (sym (ap length c.as_slice.ensures.value)) (terms_over (length cuts) r c.terms.result.now c.terms.ensures.even.0 right c.terms.ensures.even.1 c.terms.ensures.terms),
    )

pub returns-in_ok-place-in-len1 : goal.returns-in_ok-place-in-len1
returns-in_ok-place-in-len1 c =
    let C = c.args.weights.now in
    let old = c.args.proof.now in
    let cuts = old.cuts.items in
    let G = old.walk.trail.fixed in
    let ns = c.args.numbers.now in
    let n : ℤ = get_or ns 0 (pos 0) in
    let fit_n : FitsSigned w64 n = search rules in
    let place = c.in_ok-place-in-len1.place in
    let r = record_at old.records place in
    let at : IsPlace old.records (nat_abs n) place = subst (λ (x : ℤ). IsPlace old.records (nat_abs x) place) (to_z-of_z w64 n fit_n) c.in_ok-place-in-len1.ensures in
    let right : IsRecordOver (length cuts) r = c.requires.records place (record { scale = 1; terms = [] }) at.within in
    let found : named_of old.records ns ≡ Some r = ap (named_of old.records) (one_front ns c.in-len1.len_at_least c.in-len1.len_below) ∙ named_one old.records n place at in
    let fit : FitsSigned w128 c.upper-upper.result = search rules in
    let value : c.upper-upper.result ≡ leaf_value C cuts G r =
    c.upper-upper.ensures.value
    ∙ ap (λ (k : List CutKind). lagrangian_value C G c.scale-scale.result (terms_in k (terms_of c.terms.result.now))) c.as_slice.ensures.value
    ∙ ap (λ (s : ℕ). lagrangian_value C G s (terms_in cuts (terms_of c.terms.result.now))) c.scale-scale.ensures
    ∙ ap (λ (ts : List CutTerm). lagrangian_value C G r.scale (terms_in cuts ts)) c.terms.ensures.terms in
    let whole : length c.upper-upper.new.charges ≡ length old.charges.items = c.upper-upper.ensures.square ∙ ap length c.deref_mut.ensures.value in
    let back = put_back c.upper-upper.new.charges old.charges.items old.charges.len whole (sym c.deref_mut.ensures.len ∙ ap length c.deref_mut.ensures.value) in
    record {
      kept = record { cuts = c.requires.cuts; records = c.requires.records; walk = c.requires.walk; size = c.requires.size; square = ap length back ∙ whole ∙ c.requires.square };
      cuts = refl;
      records = refl;
      walk = refl;
      answer = record { the_record = r; is = found; scale = c.scale-scale.ensures; within_limit = right.within_limit; upper = to_z-of_z w128 c.upper-upper.result fit ∙ value };
    }
