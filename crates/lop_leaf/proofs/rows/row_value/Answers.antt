use Rattle.std.proofs.Common.{get_or, pos, ◌∙◌, ap, arith}
use Rattle.std.specs.Int.{int_max}
use Rattle.lop_leaf.specs.Table.{way}
use Rattle.lop_leaf.proofs.FallLemmas.{not_both}
use Rattle.lop_leaf.proofs.MarginLemmas.{greater_way}
use Rattle.lop_leaf.proofs.rows.row_value.Goals as goal

pub row_sum-requires-clause-each : goal.row_sum-requires-clause-each
row_sum-requires-clause-each c j l m =
    let C = c.args.weights.now in
    let G = c.args.fixings.now.pairs in
    let i = c.args.i in
    c.greater_from.ensures.each j (omega arith) (omega (arith, c.requires.forth_size))
    ∙ ap (λ x. int_max x (get_or c.args.back.now j (pos 0))) (c.requires.forth j l m)
    ∙ ap (λ y. int_max (way C G i j) y) (c.requires.back j l m)
    ∙ greater_way C G i j c.n-2.ensures.weights c.requires.object m (omega arith) (λ t u. not_both c.args.fixings.now i j c.n.ensures.partial_order t u)
