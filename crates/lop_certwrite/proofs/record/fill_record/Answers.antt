use Rattle.std.proofs.Common.{rules, ◌≡◌, ◌+◌, ◌<◌, [], ◌∷◌, length, ap, ◌∙◌, pos, FitsSigned, w64, ℤ, to_z, of_z}
use Rattle.std.specs.Prelude.{◌+ℤ◌}
use Rattle.std.proofs.lemmas.Int.{to_z-of_z, to_z_pos}
use Rattle.lop_core.specs.Records.{record_at}
use Rattle.lop_certwrite.proofs.LeafLemmas.{term_more}
use Rattle.lop_certwrite.proofs.record.fill_record.Goals as goal

pub loop-index-preserved : goal.loop-index-preserved
loop-index-preserved c =
    let r = record_at c.args.core.now.book.records c.args.node in
    let fits : FitsSigned w64 (c.from-in-loop-index.result +ℤ pos 1) = search rules in
    let read : FitsSigned w64 c.from-in-loop-index.result = search rules in
    let cut : to_z w64 (of_z w64 (to_z w64 (of_z w64 c.from-in-loop-index.result) +ℤ pos 1)) ≡ pos (c.term-cut.result.0 + 1) =
    ap (λ (z : ℤ). to_z w64 (of_z w64 (z +ℤ pos 1))) (to_z-of_z w64 c.from-in-loop-index.result read) ∙ (to_z-of_z w64 (c.from-in-loop-index.result +ℤ pos 1) fits ∙ ap (λ (z : ℤ). z +ℤ pos 1) c.from-in-loop-index.ensures) in
    let multiplier : to_z w64 c.term-cut.result.1 ≡ pos c.term-cut.result.1 = to_z_pos w64 c.term-cut.result.1 c.term-cut.ensures.multiplier.within_limit in
    let inside : c.loop-index.index < length (record_at c.args.core.now.book.records c.args.node).terms = search rules in
    record {
      items = term_more r (pos r.scale ∷ pos (length r.terms) ∷ []) _ _ _ c.loop-index.index c.term-cut.result.0 c.term-cut.result.1 _ _
          c.loop-index.invariant.items c.push-in-loop-index.ensures.items c.push-in-loop-index-2.ensures.items cut multiplier c.term-cut.ensures.value inside;
      len = search rules;
    }
