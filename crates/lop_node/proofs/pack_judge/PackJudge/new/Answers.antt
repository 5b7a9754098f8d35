use Rattle.std.proofs.Common.{◌≡◌, ℕ, List, length, sym, ◌∙◌, ap}
use Rattle.std.proofs.lemmas.List.FromFn.{length-range_with_len}
use Rattle.lop_node.proofs.pack_judge.PackJudge.new.Goals as goal

pub invariant_of-result : goal.invariant_of-result
invariant_of-result c =
    let size : c.in_ok-new.field-0.size ≡ c.args.n = c.in_ok-new.ensures.0 in
    let order : length c.in_ok-first.field-0 ≡ c.args.n = ap (λ (xs : List ℕ). length xs) c.in_ok-first.ensures ∙ length-range_with_len 0 c.args.n in
    (c.in_ok-new-2.ensures ∙ sym size, c.in_ok-vec.ensures.len ∙ sym size, order ∙ sym size)
