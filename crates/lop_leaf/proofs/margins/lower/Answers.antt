use Rattle.std.proofs.Common.{◌≡◌, ◌*◌, ◌+◌, ◌<◌, ℕ, cond, eqb, ◌&&◌, set, pos, neg_ℤ, ◌-ℤ◌, ◌∙◌, ap, rules, arith, to_z, of_z, FitsSigned}
use Rattle.std.specs.Int.{w64}
use Rattle.std.proofs.lemmas.Int.{to_z-of_z}
use Rattle.lop_leaf.specs.Packing.{positive_part}
use Rattle.lop_leaf.specs.Table.{signed, slack, lowered}
use Rattle.lop_leaf.proofs.MarginLemmas.{lowered_forth, lowered_back, bounded_after, slack_turned, turned_word, twice_turned}
use Rattle.lop_leaf.proofs.margins.lower.Goals as goal

forth : (c : goal.After-less) (x y : ℕ) → x < c.args.n → y < c.args.n → slack (set c.args.table.now (c.args.a * c.args.n + c.args.b) (to_z w64 (of_z w64 c.less.result))) c.args.n x y ≡ cond (eqb x c.args.a && eqb y c.args.b) (lowered (slack c.args.table.now c.args.n x y) c.args.m) (slack c.args.table.now c.args.n x y)
forth c x y lx ly =
    let t = c.args.table.now in
    let n = c.args.n in
    let a = c.args.a in
    let b = c.args.b in
    let m = c.args.m in
    let margin = c.margin_at-margin.result in
    let fits_margin : FitsSigned w64 margin = search rules in
    let fits_less : FitsSigned w64 c.less.result = search rules in
    let v = to_z w64 (of_z w64 c.less.result) in
    let is : v ≡ c.less.result = to_z-of_z w64 c.less.result fits_less in
    let one : positive_part c.less.result ≡ lowered (positive_part margin) m = cc (c.less.ensures.forth, to_z-of_z w64 margin fits_margin) in
    let two : positive_part (neg_ℤ c.less.result) ≡ positive_part (neg_ℤ margin) = cc (c.less.ensures.back, to_z-of_z w64 margin fits_margin) in
    let value : margin ≡ signed t n a b = c.margin_at-margin.ensures.value in
    let e : positive_part v ≡ lowered (slack t n a b) m = ap positive_part is ∙ one ∙ ap (λ z. lowered (positive_part z) m) value in
    let f : positive_part (neg_ℤ v) ≡ slack t n b a = ap (λ z. positive_part (neg_ℤ z)) is ∙ two ∙ ap (λ z. positive_part (neg_ℤ z)) value ∙ slack_turned t n a b c.if-a-b.true in
    lowered_forth t n a b x y m v c.requires.square c.if-a-b.true c.requires.second lx ly e f

back : (c : goal.After-less-else-a-b) (x y : ℕ) → x < c.args.n → y < c.args.n → slack (set c.args.table.now (c.args.b * c.args.n + c.args.a) (to_z w64 (of_z w64 (pos 0 -ℤ to_z w64 (of_z w64 c.less-else-a-b.result))))) c.args.n x y ≡ cond (eqb x c.args.a && eqb y c.args.b) (lowered (slack c.args.table.now c.args.n x y) c.args.m) (slack c.args.table.now c.args.n x y)
back c x y lx ly =
    let t = c.args.table.now in
    let n = c.args.n in
    let a = c.args.a in
    let b = c.args.b in
    let m = c.args.m in
    let below : b < a = omega (arith, c.if-a-b.false, c.requires.differ) in
    let margin = c.margin_at-margin-else-a-b.result in
    let less = c.less-else-a-b.result in
    let fits_margin : FitsSigned w64 margin = search rules in
    let fits_less : FitsSigned w64 less = search rules in
    let v = to_z w64 (of_z w64 (pos 0 -ℤ to_z w64 (of_z w64 less))) in
    let is : v ≡ neg_ℤ less = turned_word less c.less-else-a-b.ensures.low fits_less in
    let given = turned_word margin c.margin_at-margin-else-a-b.ensures.low fits_margin in
    let one : positive_part less ≡ lowered (positive_part (neg_ℤ margin)) m = cc (c.less-else-a-b.ensures.forth, given) in
    let two : positive_part (neg_ℤ less) ≡ positive_part (neg_ℤ (neg_ℤ margin)) = cc (c.less-else-a-b.ensures.back, given) in
    let value : margin ≡ signed t n b a = c.margin_at-margin-else-a-b.ensures.value in
    let turned : positive_part (neg_ℤ margin) ≡ slack t n a b = ap (λ z. positive_part (neg_ℤ z)) value ∙ slack_turned t n b a below in
    let e : positive_part (neg_ℤ v) ≡ lowered (slack t n a b) m = ap (λ z. positive_part (neg_ℤ z)) is ∙ ap positive_part (twice_turned less) ∙ one ∙ ap (λ p. lowered p m) turned in
    let f : positive_part v ≡ slack t n b a = ap positive_part is ∙ two ∙ ap positive_part (twice_turned margin) ∙ ap positive_part value in
    lowered_back t n a b x y m v c.requires.square below c.requires.first lx ly e f

pub returns-then-a-b-clause-bounded : goal.returns-then-a-b-clause-bounded
returns-then-a-b-clause-bounded c = bounded_after c.args.n c.args.a c.args.b c.args.m c.args.table.now _ c.requires.bounded (forth c)

pub returns-then-a-b-clause-each : goal.returns-then-a-b-clause-each
returns-then-a-b-clause-each c = forth c

pub returns-else-a-b-clause-bounded : goal.returns-else-a-b-clause-bounded
returns-else-a-b-clause-bounded c = bounded_after c.args.n c.args.a c.args.b c.args.m c.args.table.now _ c.requires.bounded (back c)

pub returns-else-a-b-clause-each : goal.returns-else-a-b-clause-each
returns-else-a-b-clause-each c = back c
