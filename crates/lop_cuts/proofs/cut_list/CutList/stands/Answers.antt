use Rattle.std.proofs.Common.{◌≡◌, ℕ, ◌<◌, get_or, length, List, refl, sym, ◌∙◌, ap, arith, inl, inr}
use Rattle.std.proofs.lemmas.Bool.{cases_eq, false≢true}
use Rattle.std.proofs.lemmas.List.{get_or_default}
use Rattle.lop_cuts.specs.declared.kind.CutKind.{CutKind}
use Rattle.lop_cuts.specs.CutList.{BoundedCuts}
use Rattle.lop_cuts.proofs.GainLemmas.{stands_at, stands_nowhere}
use Rattle.lop_cuts.proofs.cut_list.CutList.stands.Goals as goal

pub loop-i-init : goal.loop-i-init
loop-i-init c k d from below = absurd (omega arith)

pub returns-then-eq : goal.returns-then-eq
returns-then-eq c =
    let cuts = c.args.self.now.cuts in
    let i = c.loop-i.i in
    let here = c.index.result.now in
    let cut = c.args.cut.now in
    let inside : c.self.inside.cuts.items ≡ cuts = ap (λ (l : BoundedCuts). l.cuts) c.self.view_is in
    let below : i < length cuts = omega (arith, ap length inside, c.loop-i-test.true, c.len-i-end.ensures) in
    let same : here ≡ cut = c.eq.ensures.same.0 c.if-eq.true in (
      λ _. stands_at cuts c.args.start i cut c.loop-i.auto.i below
          (get_or_default cuts i cut here below ∙ sym (c.index.ensures ∙ ap (λ (xs : List CutKind). get_or xs i here) inside) ∙ same),
      λ _. refl,
    )

pub loop-i-preserved : goal.loop-i-preserved
loop-i-preserved c k d from l =
    let cuts = c.args.self.now.cuts in
    let i = c.loop-i.i in
    let here = c.index.result.now in
    let inside : c.self.inside.cuts.items ≡ cuts = ap (λ (l : BoundedCuts). l.cuts) c.self.view_is in
    let below : i < length cuts = omega (arith, ap length inside, c.loop-i-test.true, c.len-i-end.ensures) in
    elim (cases_eq k i) [
      | inl e ↦ λ same.
          false≢true (sym c.if-eq.false
          ∙ c.eq.ensures.same.1 (c.index.ensures ∙ ap (λ (xs : List CutKind). get_or xs i here) inside ∙ get_or_default cuts i here d below ∙ sym (ap (λ (j : ℕ). get_or cuts j d) e) ∙ same))
      | inr o ↦ c.loop-i.invariant k d from (omega arith)
    ]

pub returns : goal.returns
returns c =
    let cuts = c.args.self.now.cuts in
    let inside : c.self.inside.cuts.items ≡ cuts = ap (λ (l : BoundedCuts). l.cuts) c.self.view_is in (
      λ t. absurd (false≢true t),
      λ h.
          absurd
          (stands_nowhere cuts c.args.start c.args.cut.now
          (λ k d from below.
          c.loop-i.invariant k d from (omega (arith, ap length inside, c.loop-i-test.false, c.len-i-end.ensures)))
          h),
    )
