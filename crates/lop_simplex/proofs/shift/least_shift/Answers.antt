use Rattle.std.proofs.Common.{◌≡◌, ℕ, ◌<◌, ◌≤◌, ◌+◌, subst, arith, inl, inr}
use Rattle.std.proofs.lemmas.Bool.{cases_eq}
use Rattle.lop_simplex.specs.Shift.{AreSmallAt}
use Rattle.lop_simplex.proofs.ShiftLemmas.{not_true}
use Rattle.lop_simplex.proofs.shift.least_shift.Goals as goal

pub loop-shift-preserved : goal.loop-shift-preserved
loop-shift-preserved c =
    let shift = c.loop-shift.shift in
    let most = c.loop-shift.invariant.0 in
    let tested = c.loop-shift-test.ensures in
    let next : shift + 1 ≤ 40 = elim (cases_eq shift 40) [ inl e ↦ absurd (not_true (tested.at_last e)) | inr o ↦ omega arith ] in (
      next,
      λ k l. elim (cases_eq k shift) [
        | inl e ↦ λ small. not_true (tested.small.1 (subst (λ (x : ℕ). AreSmallAt c.args.weights.now x) e small))
        | inr o ↦ c.loop-shift.invariant.1 k (omega arith)
      ],
    )
