use Rattle.std.proofs.Common.{rules, [], ◌∷◌, pos, FitsSigned, w64}
use Rattle.std.proofs.lemmas.Int.{to_z-of_z}
use Rattle.lop_certtext.specs.declared.word.CertWord.TheVariants.{Bound, Cuts}
use Rattle.lop_certtext.specs.Line.{CertLine}
use Rattle.lop_certwrite.proofs.Written.{line_front, line_then, last_line}
use Rattle.lop_certwrite.proofs.head.write_bound_lines.Goals as goal

pub returns-in_err-write_short_line-clause-effect : goal.returns-in_err-write_short_line-clause-effect
returns-in_err-write_short_line-clause-effect g c =
    let fits : FitsSigned w64 c.args.bound = search rules in
    let first : CertLine = record { word = Bound; numbers = c.args.bound ∷ [] } in
    let second : CertLine = record { word = Cuts; numbers = pos c.args.cuts ∷ [] } in
    line_front _ _ first (second ∷ []) _ _ c.from_residual.ensures.1 (simp to_z-of_z at c.in_err-write_short_line.ensures.effect)

pub returns-clause-effect : goal.returns-clause-effect
returns-clause-effect g c =
    let fits : FitsSigned w64 c.args.bound = search rules in
    let read : FitsSigned w64 c.from.result = search rules in
    let first : CertLine = record { word = Bound; numbers = c.args.bound ∷ [] } in
    let second : CertLine = record { word = Cuts; numbers = pos c.args.cuts ∷ [] } in
    line_then _ _ _ first (second ∷ []) _ (simp to_z-of_z at c.in_ok-write_short_line.ensures.effect) (last_line _ _ second _ (rw c.from.ensures at (simp to_z-of_z at c.write_short_line-2.ensures.effect)))
