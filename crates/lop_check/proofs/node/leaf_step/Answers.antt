use Rattle.std.proofs.Common.{◌≡◌, ◌∙◌, ◌+ℤ◌, ◌*ℤ◌, ◌<ℤ◌, cond, ap, sym, rules, pos, ℕ, ℤ, Bool, true, List, Option, w64, FitsSigned}
use Rattle.std.specs.Prelude.{int_lt}
use Rattle.std.specs.Int.{w128}
use Rattle.std.proofs.lemmas.Int.{to_z-of_z}
use Rattle.lop_model.specs.declared.pair.Pair.{Pair}
use Rattle.lop_certtext.specs.declared.reason.Reason.TheVariants as reason
use Rattle.lop_certtext.specs.RecordLine.{CertRecord}
use Rattle.lop_certtext.specs.Answer.{CheckAnswer, rejected, leaf_value, leaf_limit, leaf_step}
use Rattle.lop_check.specs.declared.path.Walk.{Walk}
use Rattle.lop_check.specs.TreePlace.{place}
use Rattle.lop_check.proofs.Walk.{lt_test}
use Rattle.lop_check.proofs.NodeLemmas.{less_from_test}
use Rattle.lop_check.proofs.node.leaf_step.Goals as goal

pub returns-then-upper-limit : goal.returns-then-upper-limit
returns-then-upper-limit c =
    let C = c.args.weights.now in
    let old = c.args.proof.now in
    let cuts = old.cuts.items in
    let G = old.walk.trail.fixed in
    let bound = c.args.claim.bound in
    let is = c.in-Some.ensures.answer in
    let r = is.the_record in
    let fits : FitsSigned w64 bound = search rules in
    let fit_u : FitsSigned w128 c.in-Some.shown.upper = search rules in
    let fit_l : FitsSigned w128 c.limit_of-limit.result = search rules in
    let limit : c.limit_of-limit.result ≡ leaf_limit r bound =
    c.limit_of-limit.ensures ∙ ap (λ (b : ℤ). pos c.in-Some.shown.scale *ℤ (b +ℤ pos 1)) (to_z-of_z w64 bound fits) ∙ ap (λ (s : ℕ). pos s *ℤ (bound +ℤ pos 1)) is.scale in
    let test : int_lt c.in-Some.shown.upper c.limit_of-limit.result ≡ true = rw (to_z-of_z w128 c.in-Some.shown.upper fit_u, to_z-of_z w128 c.limit_of-limit.result fit_l) at c.if-upper-limit.true in
    let less : leaf_value C cuts G r <ℤ leaf_limit r bound = less_from_test _ _ _ _ is.upper limit test in
    let kept = c.in-Some.ensures.kept in
    let others = (place old.walk).others in
    record {
      kept = record { cuts = kept.cuts; records = kept.records; walk = c.leave.ensures.walk; size = c.leave.ensures.size ∙ kept.size; square = kept.square };
      cuts = c.in-Some.ensures.cuts;
      records = c.in-Some.ensures.records;
      answer = λ number (next : List (List Pair) → CheckAnswer).
          ap (λ (o : Option CertRecord). leaf_step C cuts bound G others number o next) is.is
          ∙ ap (λ (t : Bool). cond t (next others) (rejected number (reason.High (leaf_value C cuts G r) (leaf_limit r bound)))) (lt_test _ _ less)
          ∙ ap next (ap (λ (w : Walk). (place w).others) (sym c.in-Some.ensures.walk) ∙ sym c.leave.ensures.next);
    }
