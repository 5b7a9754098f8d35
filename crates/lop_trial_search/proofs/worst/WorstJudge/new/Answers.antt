use Rattle.std.proofs.Common.{◌∙◌, ap, length, sym}
use Rattle.std.proofs.lemmas.List.FromFn.{length-range_with_len}
use Rattle.lop_trial_search.proofs.worst.WorstJudge.new.Goals as goal

pub invariant_of-result : goal.invariant_of-result
invariant_of-result c = (
  c.in_ok-new-2.ensures.0 ∙ sym c.in_ok-new.ensures,
  ap length c.in_ok-first.ensures ∙ (length-range_with_len 0 c.args.n ∙ sym c.in_ok-new.ensures),
)
