use Rattle.std.proofs.Common.{◌∙◌, List, ℕ, length, ap, sym}
use Rattle.std.proofs.lemmas.List.FromFn.{length-range_with_len}
use Rattle.lop_tool.specs.Names.{CoreFields, prepared, weight}
use Rattle.lop_tool.proofs.SearchedLemmas.{IsPrepared-made}
use Rattle.lop_tool.proofs.search.Search.prepare.Goals as goal

pub first_order-requires : goal.first_order-requires
first_order-requires c = ap (λ (s : List ℕ). length s) c.in_ok-room.ensures ∙ length-range_with_len 0 c.n-n.result ∙ c.n-n.ensures.size

pub invariant_of-result : goal.invariant_of-result
invariant_of-result c =
    let made = IsPrepared-made c.args.weights.now c.first_order.new.room c.args.nodes c.in_ok-prepare.field-0
    (c.in_ok-prepare.ensures ∙ ap (λ (s : List ℕ). prepared (record { weights = c.args.weights.now; start = weight c.args.weights.now s; budget = c.args.nodes }) s) c.order.ensures)
    c.requires.positive c.n-n.ensures.weights c.first_order.ensures.from_start c.first_order.ensures.climbed in
    (made.0, made.1, made.2, c.in_ok-pool_of.ensures ∙ c.n-n.ensures.size ∙ ap (λ (x : CoreFields). x.problem.weights.size) (sym c.in_ok-prepare.ensures))
