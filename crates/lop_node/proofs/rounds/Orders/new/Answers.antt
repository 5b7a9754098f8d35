use Rattle.std.proofs.Common.{ℕ, List, length, ◌∙◌, ap}
use Rattle.std.proofs.lemmas.List.FromFn.{length-range_with_len}
use Rattle.lop_node.proofs.rounds.Orders.new.Goals as goal

pub returns-clause-same_next : goal.returns-clause-same_next
returns-clause-same_next c = ap (λ (s : List ℕ). length s) c.in_ok-first.ensures ∙ length-range_with_len 0 c.args.n

pub returns-clause-same_climb : goal.returns-clause-same_climb
returns-clause-same_climb c = ap (λ (s : List ℕ). length s) c.in_ok-new.ensures ∙ length-range_with_len 0 c.args.n

pub returns-clause-same_best : goal.returns-clause-same_best
returns-clause-same_best c = ap (λ (s : List ℕ). length s) c.in_ok-first-2.ensures ∙ length-range_with_len 0 c.args.n
