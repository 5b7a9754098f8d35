use Rattle.std.proofs.Common.{◌≡◌, ◌∙◌, rules, arith, w64, FitsSigned, subst, sym}
use Rattle.std.specs.Int.{w128}
use Rattle.std.proofs.lemmas.Int.{to_z-of_z}
use Rattle.lop_basis.specs.Cells.{difference}
use Rattle.lop_basis.proofs.RowLemmas.{changed_more, difference_kept}
use Rattle.lop_basis.proofs.cells.subtract_row.Goals as goal

pub loop-j-preserved : goal.loop-j-preserved
loop-j-preserved c =
    let j = c.loop-j.j in
    let fits : FitsSigned w64 c.in-Some.entry = search rules in
    let wide : FitsSigned w128 c.difference_at.result = search rules in
    let later = c.loop-j.invariant.later j (omega arith) c.loop-j-test.true in
    let others = c.loop-j.invariant.others c.args.pivot_row j c.requires.pivot_row c.loop-j-test.true (λ e. c.requires.differ (sym e)) in
    let value : c.in-Some.entry ≡ difference c.args.cells.now c.args.n c.args.pivot_row c.args.column.now c.args.row j =
    c.in-Some.ensures.some ∙ to_z-of_z w128 c.difference_at.result wide ∙ c.difference_at.ensures ∙ difference_kept _ _ _ _ _ later others in
    changed_more _ _ _ _ _ _ _ c.requires.square c.requires.row c.loop-j-test.true c.loop-j.invariant (to_z-of_z w64 c.in-Some.entry fits ∙ value)
    (subst (FitsSigned w64) value fits)
