use Rattle.std.proofs.Common.{[], List, rules, FitsSigned, ◌∙◌, ap}
use Rattle.std.proofs.lemmas.Int.{to_z-of_z}
use mir.Syntax.{w128}
use Rattle.lop_model.specs.declared.pair.Pair.{Pair}
use Rattle.lop_cuts.proofs.LagrangianLemmas.{lagrangian_value-plain}
use Rattle.lop_leaf.specs.Record.{ScaledTerms}
use Rattle.lop_leaf.specs.Bound.{record_value}
use Rattle.lop_core.proofs.start.root_bound.Goals as goal

pub returns : goal.returns
returns c =
    let f : FitsSigned w128 c.upper-2.result = search rules in
    to_z-of_z w128 c.upper-2.result f ∙ c.upper-2.ensures.value ∙ ap (λ (G : List Pair). record_value c.args.weights.now G c.in_ok-new.field-0) c.in_ok-fixings.ensures.1
    ∙ ap (λ (r : ScaledTerms). record_value c.args.weights.now [] r) c.in_ok-new.ensures ∙ lagrangian_value-plain c.args.weights.now []
