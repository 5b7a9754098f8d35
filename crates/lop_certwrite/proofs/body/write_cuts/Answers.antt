use Rattle.std.proofs.Common.{rules, ◌≡◌, ◌<◌, ◌≤◌, true, length, sym, ◌∙◌, ap, subst, List, ℤ}
use Rattle.lop_certtext.specs.Line.{CertLine, is_row}
use Rattle.lop_certtext.specs.CutLine.{cut_line, IsShapedCut}
use Rattle.lop_certtext.proofs.AcceptedText.{cut_written}
use Rattle.lop_certwrite.proofs.CutLines.{each_cut, each_more, shaped_cuts, all_shaped}
use Rattle.lop_certwrite.proofs.body.write_cuts.Goals as goal

pub write_short_line-requires-clause-row : goal.write_short_line-requires-clause-row
write_short_line-requires-clause-row g c =
    let line : record { word = c.fill_cut-word.result; numbers = c.deref.result.now } ≡ cut_line c.cut.result.now = ap (λ (ns : List ℤ). record { word = c.fill_cut-word.result; numbers = ns }) c.deref.ensures.0 ∙ c.fill_cut-word.ensures.line in
    subst (λ (l : CertLine). is_row l.word l.numbers ≡ true) (sym line) (cut_written c.args.core.now.problem.weights.size c.cut.result.now c.requires.few_objects c.cut.ensures.cut c.cut.ensures.fits c.fill_cut-word.ensures.shaped).row

pub returns-in_err-write_short_line-clause-effect : goal.returns-in_err-write_short_line-clause-effect
returns-in_err-write_short_line-clause-effect g c =
    let inside : c.loop-index.index < length c.args.core.now.book.cuts = search rules in
    let line : record { word = c.fill_cut-word.result; numbers = c.deref.result.now } ≡ cut_line c.cut.result.now = ap (λ (ns : List ℤ). record { word = c.fill_cut-word.result; numbers = ns }) c.deref.ensures.0 ∙ c.fill_cut-word.ensures.line in
    each_cut cut_line c.args.core.now.book.cuts c.loop-index.index _ inside _ _ _ _ _ _ (line ∙ ap cut_line c.cut.ensures.value) c.loop-index.invariant.written c.from_residual.ensures.1 c.in_err-write_short_line.ensures.effect

pub loop-index-preserved : goal.loop-index-preserved
loop-index-preserved g c =
    let inside : c.loop-index.index < length c.args.core.now.book.cuts = search rules in
    let line : record { word = c.fill_cut-word.result; numbers = c.deref.result.now } ≡ cut_line c.cut.result.now = ap (λ (ns : List ℤ). record { word = c.fill_cut-word.result; numbers = ns }) c.deref.ensures.0 ∙ c.fill_cut-word.ensures.line in
    record {
      making = search rules;
      later = search rules;
      written = each_more cut_line c.args.core.now.book.cuts c.loop-index.index _ inside _ _ _ _ (line ∙ ap cut_line c.cut.ensures.value) c.loop-index.invariant.written c.in_ok-write_short_line.ensures.effect;
      shaped = shaped_cuts c.args.core.now.book.cuts c.loop-index.index _ inside c.loop-index.invariant.shaped (subst IsShapedCut c.cut.ensures.value c.fill_cut-word.ensures.shaped);
    }

pub returns-clause-shaped : goal.returns-clause-shaped
returns-clause-shaped g c =
    let over : length c.args.core.now.book.cuts ≤ c.loop-index.index = search rules in
    all_shaped c.args.core.now.book.cuts c.loop-index.index over c.loop-index.invariant.shaped
