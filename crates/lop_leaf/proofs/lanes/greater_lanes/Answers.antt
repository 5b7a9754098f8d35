use Rattle.std.proofs.Common.{◌+◌, ℕ, get_or, pos, ◌∙◌, ap, rules, arith}
use Rattle.std.specs.Int.{int_max}
use Rattle.std.proofs.lemmas.Simd.{get_or-put_chunk_at, get_or-put_chunk_below}
use Rattle.lop_leaf.proofs.LaneLemmas.{below_four, lane_value}
use Rattle.lop_leaf.proofs.lanes.greater_lanes.Goals as goal

pub returns-clause-here : goal.returns-clause-here
returns-clause-here c =
    let at = c.args.at in
    let x = λ (k : ℕ). get_or c.args.left.now (at + k) (pos 0) in
    let y = λ (k : ℕ). get_or c.args.right.now (at + k) (pos 0) in
    let out = c.args.out.now in
    below_four _
    (get_or-put_chunk_at at out _ 0 (pos 0) (omega arith) (omega arith) ∙ lane_value (get_or c.args.left.now at (pos 0)) (get_or c.args.right.now at (pos 0)) (search rules) (search rules) ∙ ap (λ p. int_max (get_or c.args.left.now p (pos 0)) (get_or c.args.right.now p (pos 0))) (omega arith))
    (get_or-put_chunk_at at out _ 1 (pos 0) (omega arith) (omega arith) ∙ lane_value (x 1) (y 1) (search rules) (search rules))
    (get_or-put_chunk_at at out _ 2 (pos 0) (omega arith) (omega arith) ∙ lane_value (x 2) (y 2) (search rules) (search rules))
    (get_or-put_chunk_at at out _ 3 (pos 0) (omega arith) (omega arith) ∙ lane_value (x 3) (y 3) (search rules) (search rules))

pub returns-clause-below : goal.returns-clause-below
returns-clause-below c k l = get_or-put_chunk_below c.args.at c.args.out.now _ k (pos 0) l
