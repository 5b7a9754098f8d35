use Rattle.std.proofs.Common.{length, ◌∙◌, ap}
use Rattle.std.proofs.lemmas.List.FromFn.{length-range_with_len}
use Rattle.lop_leaf.specs.Evaluated.{EvaluatedFields}
use Rattle.lop_trial_search.proofs.small_judge.rooms_of.Goals as goal

pub returns-clause-into : goal.returns-clause-into
returns-clause-into c = ap (λ (e : EvaluatedFields). length e.order) c.in_ok-new-2.ensures ∙ length-range_with_len 0 c.args.n
