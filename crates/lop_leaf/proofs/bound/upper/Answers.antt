use Rattle.std.proofs.Common.{◌≡◌, ◌∙◌, sym, rules, to_z, of_z, FitsSigned}
use Rattle.std.specs.Int.{w128}
use Rattle.std.proofs.lemmas.Int.{to_z-of_z}
use Rattle.lop_cuts.proofs.LagrangianLemmas.{weight-le-lagrangian_value, lagrangian_value-more, AreValid-AreCuts}
use Rattle.lop_leaf.specs.Bound.{record_value}
use Rattle.lop_leaf.proofs.FallLemmas.{not_both, weight-decided}
use Rattle.lop_leaf.proofs.bound.upper.Goals as goal

pub returns : goal.returns
returns c =
    let w = c.args.weights.now in
    let fixed = c.args.fixings.now in
    let rec = c.args.rec.now in
    let is = c.n.ensures.partial_order in
    let terms = c.value_under.ensures.terms in
    let fits : FitsSigned w128 c.value_under.result = search rules in
    let whole : to_z w128 (of_z w128 c.value_under.result) ≡ record_value w fixed.pairs rec = to_z-of_z w128 c.value_under.result fits ∙ c.value_under.ensures.value in
    record {
      value = whole;
      low = search rules;
      high = search rules;
      bounds = λ s o x. rw whole (weight-le-lagrangian_value w fixed.pairs rec.scale rec.terms s o x (AreValid-AreCuts w.size rec.terms terms.cuts));
      exact = λ d e s o x. weight-decided w fixed rec.scale rec.terms s is d e o x ∙ sym whole;
      falls = λ F among. rw whole (lagrangian_value-more w F fixed.pairs rec.scale rec.terms among.each (λ a b t u. not_both fixed a b is t u));
      terms = terms;
      room = search rules;
    }
