use Rattle.std.proofs.Common.{◌≡◌, ◌≢◌, ◌<◌, ℕ, length, List, [], ◌∷◌, ◌++◌, cond, get_or, sym, ◌∙◌, ap, subst, arith, rules, append-nil, pos, w64, FitsSigned}
use Rattle.std.proofs.lemmas.Int.{to_z-of_z}
use Rattle.std.proofs.lemmas.List.{get_or_default}
use Rattle.lop_cuts.specs.declared.kind.CutKind.TheVariants.{Dicycle}
use Rattle.lop_leaf.specs.Hints.{rounded_multiplier}
use Rattle.std.proofs.lemmas.Bool.{lt-ltb, le-ltb}
use Rattle.lop_cuts.specs.declared.kind.CutKind.{CutKind}
use Rattle.lop_cuts.specs.Kind.{FitsCut}
use Rattle.lop_cuts.specs.Lagrangian.{Term}
use Rattle.lop_leaf.specs.Record.{ScaledTerms, FitTerms}
use Rattle.lop_leaf.proofs.HintLemmas.{terms_before, length-terms_before-le, All-terms_before, terms_before-more, terms_before-all}
use Rattle.lop_leaf.proofs.hints.round_hints.Goals.{then-multiplier-gt0, else-multiplier-gt0}
use Rattle.lop_leaf.proofs.hints.round_hints.Goals as goal

pub put-requires-clause-room : goal.put-requires-clause-room
put-requires-clause-room c =
    omega (arith, ap length c.loop-index.invariant.terms, length-terms_before-le c.args.shift c.args.scale c.args.cuts.now c.args.duals.now c.loop-index.index c.requires.same_length (omega arith))

pub put-requires-clause-new_cut : goal.put-requires-clause-new_cut
put-requires-clause-new_cut c =
    let cuts = c.args.cuts.now in
    let i = c.loop-index.index in
    let cut : CutKind = c.copy.result in
    let is : cut ≡ get_or cuts i c.index-cuts-index.result = c.copy.ensures ∙ c.index-cuts-index.is in
    subst (λ (ts : List Term). (k : ℕ) (t : Term) → k < length ts → (get_or ts k t).cut ≢ cut) (sym c.loop-index.invariant.terms)
    (All-terms_before (λ (x : CutKind). x ≢ cut) c.args.shift c.args.scale cuts c.args.duals.now i c.requires.same_length (omega arith)
    (λ k d l e. c.requires.different k i c.index-cuts-index.result l c.loop-index-test.true (get_or_default cuts k c.index-cuts-index.result d (omega arith) ∙ e ∙ is)))

pub loop-index-preserved : goal.loop-index-preserved
loop-index-preserved c =
    let cuts = c.args.cuts.now in
    let duals = c.args.duals.now in
    let shift = c.args.shift in
    let scale = c.args.scale in
    let i = c.loop-index.index in
    let m = c.rounded-multiplier.result in
    let so_far = terms_before shift scale cuts duals i in
    let within : i < length cuts = c.loop-index-test.true in
    let fits : FitsSigned w64 (get_or duals i (pos 0)) = search rules in
    let by : m ≡ rounded_multiplier shift scale (get_or duals i (pos 0)) = c.rounded-multiplier.ensures.value ∙ ap (rounded_multiplier shift scale) (to_z-of_z w64 (get_or duals i (pos 0)) fits) in
    elim c.if-multiplier-gt0.branch [
      | then-multiplier-gt0 w ↦
          let cut : CutKind = w.copy.result in
          let t : Term = record { cut = cut; multiplier = m } in
          let is : cut ≡ get_or cuts i cut = w.copy.ensures ∙ w.index-cuts-index.is ∙ get_or_default cuts i w.index-cuts-index.result cut within in
          let put = w.rec-is ∙ w.put.ensures in
          record {
            scale = ap (λ (r : ScaledTerms). r.scale) put ∙ c.loop-index.invariant.scale;
            terms = ap (λ (r : ScaledTerms). r.terms) put
                ∙ ap (λ (ts : List Term). ts ++ t ∷ []) c.loop-index.invariant.terms
                ∙ ap (λ b. so_far ++ cond b (t ∷ []) []) (sym (lt-ltb 0 m w.if-multiplier-gt0.true))
                ∙ sym (terms_before-more shift scale cuts duals i m cut c.requires.same_length within by is);
          }
      | else-multiplier-gt0 w ↦
          let none : CutKind = Dicycle [] in
          let cut : CutKind = get_or cuts i none in
          let t : Term = record { cut = cut; multiplier = m } in
          record {
            scale = ap (λ (r : ScaledTerms). r.scale) w.rec-is ∙ c.loop-index.invariant.scale;
            terms = ap (λ (r : ScaledTerms). r.terms) w.rec-is
                ∙ c.loop-index.invariant.terms
                ∙ sym (append-nil so_far)
                ∙ ap (λ b. so_far ++ cond b (t ∷ []) []) (sym (le-ltb 0 m w.if-multiplier-gt0.false))
                ∙ sym (terms_before-more shift scale cuts duals i m cut c.requires.same_length within by (get_or_default cuts i none cut within));
          }
    ]

pub returns-clause-exact : goal.returns-clause-exact
returns-clause-exact c =
    let terms = c.loop-index.invariant.terms ∙ terms_before-all c.args.shift c.args.scale c.args.cuts.now c.args.duals.now c.loop-index.index c.requires.same_length c.loop-index-test.false in
    ap (λ (s : ℕ). record { scale = s; terms = c.loop-index.rec.terms }) c.loop-index.invariant.scale ∙ ap (λ (ts : List Term). record { scale = c.args.scale; terms = ts }) terms

pub returns-clause-fit : goal.returns-clause-fit
returns-clause-fit c n fit =
    subst (FitTerms n) (sym c.loop-index.invariant.terms)
    (All-terms_before (FitsCut n) c.args.shift c.args.scale c.args.cuts.now c.args.duals.now c.loop-index.index c.requires.same_length c.loop-index.auto.index-end
    (λ k x l. fit k x (omega arith)))
