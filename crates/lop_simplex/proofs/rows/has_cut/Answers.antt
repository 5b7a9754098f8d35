use Rattle.std.proofs.Common.{◌≡◌, ℕ, ◌<◌, get_or, length, sym, ◌∙◌, ap, arith, inl, inr}
use Rattle.std.proofs.lemmas.Bool.{cases_eq}
use Rattle.std.proofs.lemmas.List.{get_or_default}
use Rattle.lop_cuts.specs.declared.kind.CutKind.{CutKind}
use Rattle.lop_simplex.proofs.ShiftLemmas.{not_true}
use Rattle.lop_simplex.proofs.rows.has_cut.Goals as goal

pub returns-then-eq-clause-present : goal.returns-then-eq-clause-present
returns-then-eq-clause-present c t =
    let rows = c.args.rows.now in
    let i = c.loop-row.row-index in
    let row = c.row-item.result in
    let cut = c.args.cut.now in
    let same : row ≡ cut = c.if-eq.ensures.same.0 t in
    (i, c.loop-row-test.true, get_or_default rows i cut row c.loop-row-test.true ∙ sym c.row-item.is ∙ same)

pub loop-row-preserved : goal.loop-row-preserved
loop-row-preserved c k d l =
    let rows = c.args.rows.now in
    let i = c.loop-row.row-index in
    let row = c.row-item.result in
    elim (cases_eq k i) [
      | inl e ↦ λ same.
          not_true
          (c.if-eq.ensures.same.1 (c.row-item.is ∙ get_or_default rows i row d c.loop-row-test.true ∙ sym (ap (λ (j : ℕ). get_or rows j d) e) ∙ same))
      | inr o ↦ c.loop-row.invariant k d (omega arith)
    ]

pub returns-clause-absent : goal.returns-clause-absent
returns-clause-absent c t k d l = c.loop-row.invariant k d (omega arith)
