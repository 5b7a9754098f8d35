use Rattle.std.proofs.Common.{◌∙◌, refl, rules, FitsSigned}
use Rattle.std.specs.Int.{w128}
use Rattle.std.proofs.lemmas.Int.{to_z-of_z}
use Rattle.lop_trial_search.proofs.RootLemmas.{filled_root}
use Rattle.lop_trial_search.proofs.node.fill_root.Goals as goal

pub returns : goal.returns
returns c =
    let fits : FitsSigned w128 c.upper-bound.result = search rules in
    filled_root c.args.weights.now c.fill.new.self _ _ _ _ _ c.in_ok-fixings.fixings.pairs c.in_ok-rec.rec c.fill.ensures c.requires refl c.in_ok-rec.ensures c.in_ok-fixings.ensures.1 (to_z-of_z w128 c.upper-bound.result fits ∙ c.upper-bound.ensures.value)
