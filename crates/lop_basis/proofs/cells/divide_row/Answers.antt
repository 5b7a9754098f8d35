use Rattle.std.proofs.Common.{◌≡◌, ◌∙◌, rules, arith, ap, w64, FitsSigned, subst, ℤ}
use Rattle.std.specs.Int.{w128}
use Rattle.std.proofs.lemmas.Int.{to_z-of_z}
use Rattle.lop_basis.specs.Table.{at}
use Rattle.lop_basis.specs.Fixed.{quotient}
use Rattle.lop_basis.specs.Pivot.{new_of_pivot_row}
use Rattle.lop_basis.proofs.RowLemmas.{changed_more}
use Rattle.lop_basis.proofs.cells.divide_row.Goals as goal

pub loop-j-preserved : goal.loop-j-preserved
loop-j-preserved c =
    let j = c.loop-j.j in
    let n = c.args.n in
    let fits : FitsSigned w64 c.in-Some.entry = search rules in
    let wide : FitsSigned w128 c.quotient_at.result = search rules in
    let later = c.loop-j.invariant.later j (omega arith) c.loop-j-test.true in
    let value : c.in-Some.entry ≡ new_of_pivot_row c.args.cells.now n c.args.row c.args.column.now j =
    c.in-Some.ensures.some
    ∙ to_z-of_z w128 c.quotient_at.result wide
    ∙ c.quotient_at.ensures
    ∙ ap (λ (x : ℤ). quotient x (at c.args.column.now c.args.row)) later in
    changed_more _ _ _ _ _ _ _ c.requires.square c.requires.row c.loop-j-test.true c.loop-j.invariant (to_z-of_z w64 c.in-Some.entry fits ∙ value)
    (subst (FitsSigned w64) value fits)
