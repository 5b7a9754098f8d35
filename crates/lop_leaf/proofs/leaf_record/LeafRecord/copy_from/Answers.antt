use Rattle.std.proofs.Common.{◌≡◌, ◌≢◌, ℕ, ◌<◌, List, length, take, get_or, sym, ◌∙◌, ap, arith}
use Rattle.std.specs.List.{AllPairs}
use Rattle.std.proofs.lemmas.List.{get_or-take, get_or_default, length-take-le}
use Rattle.lop_cuts.specs.Lagrangian.{Term}
use Rattle.lop_cuts.specs.declared.kind.CutKind.{CutKind}
use Rattle.lop_leaf.proofs.leaf_record.LeafRecord.copy_from.Goals as goal

-- the cut of a term is different from those of the terms before it
different_before : (xs ys : List Term) (i k : ℕ) (d y : Term) (cut : CutKind) → AllPairs (λ t u. t.cut ≢ u.cut) ys → xs ≡ take i ys → i < length ys → y ≡ get_or ys i y → cut ≡ y.cut → k < length xs → (get_or xs k d).cut ≡ cut → ⊥
different_before xs ys i k d y cut different front within is copied l e =
    let len : length (take i ys) ≡ i = length-take-le i ys (omega arith) in
    let before : k < i = omega (arith, ap length front) in
    let other : (get_or ys i d).cut ≡ y.cut = sym (ap (λ t. t.cut) (is ∙ get_or_default ys i y d within)) in
    different k i d before within (ap (λ t. t.cut) (sym (ap (λ zs. get_or zs k d) front ∙ get_or-take i ys k d before)) ∙ e ∙ copied ∙ sym other)

pub put-requires-clause-new_cut : goal.put-requires-clause-new_cut
put-requires-clause-new_cut c k d l e =
    different_before c.loop-index.self.terms c.args.other.now.terms c.loop-index.index k d c.term-term.result.now c.copy.result
    c.len-index-end.ensures.terms.different c.loop-index.invariant.terms (omega (arith, c.len-index-end.ensures.value)) c.term-term.ensures.value (c.copy.ensures ∙ ap (λ t. t.cut) c.term.view_is) l e
