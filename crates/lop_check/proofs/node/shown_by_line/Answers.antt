use Rattle.std.proofs.Common.{◌≡◌, ◌∙◌, refl, ap, sym, subst, arith, rules, ℕ, List, length, FitsSigned}
use Rattle.std.specs.Int.{w128}
use Rattle.std.proofs.lemmas.Int.{to_z-of_z}
use Rattle.lop_model.proofs.CellLemmas.{put_back}
use Rattle.lop_cuts.specs.declared.kind.CutKind.{CutKind}
use Rattle.lop_certtext.specs.RecordLine.{CertRecord, terms_of}
use Rattle.lop_certtext.specs.Answer.{leaf_value}
use Rattle.lop_check.specs.Records.{IsRow}
use Rattle.lop_check.proofs.node.shown_by_line.Goals as goal

pub returns : goal.returns
returns c =
    let C = c.args.weights.now in
    let old = c.args.proof.now in
    let cuts = old.cuts.items in
    let G = old.walk.trail.fixed in
    let count : c.len.result ≡ length cuts = omega (arith, c.len.ensures, old.cuts.ok) in
    let row : IsRow (length cuts) c.args.numbers.now c.in_ok-scale.scale c.in_ok-scale.terms.now = subst (λ (k : ℕ). IsRow k c.args.numbers.now c.in_ok-scale.scale c.in_ok-scale.terms.now) count c.in_ok-scale.ensures in
    let r : CertRecord = record { scale = c.in_ok-scale.scale; terms = terms_of c.in_ok-scale.terms.now } in
    let fit : FitsSigned w128 c.upper-upper.result = search rules in
    let value : c.upper-upper.result ≡ leaf_value C cuts G r = c.upper-upper.ensures.value ∙ ap (λ (k : List CutKind). leaf_value C k G r) c.as_slice.ensures.value in
    let whole : length c.upper-upper.new.charges ≡ length old.charges.items = c.upper-upper.ensures.square ∙ ap length c.deref_mut.ensures.value in
    let back = put_back c.upper-upper.new.charges old.charges.items old.charges.len whole (sym c.deref_mut.ensures.len ∙ ap length c.deref_mut.ensures.value) in
    record {
      kept = record { cuts = c.requires.cuts; records = c.requires.records; walk = c.requires.walk; size = c.requires.size; square = ap length back ∙ whole ∙ c.requires.square };
      cuts = refl;
      records = refl;
      walk = refl;
      answer = record { the_record = r; is = row.read; scale = refl; within_limit = row.within_limit; upper = to_z-of_z w128 c.upper-upper.result fit ∙ value };
    }
