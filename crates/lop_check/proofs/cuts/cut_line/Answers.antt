use Rattle.std.proofs.Common.{ℕ, List}
use Rattle.lop_cuts.specs.declared.kind.CutKind.{CutKind}
use Rattle.lop_certtext.specs.Line.{CertLine}
use Rattle.lop_certtext.specs.Answer.{TextLine, CheckAnswer, cut_step}
use Rattle.lop_check.proofs.Walk.{exits, passes, fails}
use Rattle.lop_check.proofs.cuts.cut_line.Goals as goal

-- what follows a cut's line
abbrev line_next : ℕ → (ℕ → CutKind → List TextLine → CheckAnswer) → ℕ → CertLine → List TextLine → CheckAnswer
line_next n next number line rest = cut_step n number line.word line.numbers (λ cut. next number cut rest)

pub returns-in_err-word-clause-stops : goal.returns-in_err-word-clause-stops
returns-in_err-word-clause-stops g c = exits _ _ _ c.from_residual.ensures.1 (λ next. (c.in_err-word.ensures.stops (line_next c.args.n next)))

pub returns-in-Ok-clause-goes : goal.returns-in-Ok-clause-goes
returns-in-Ok-clause-goes g c next =
    passes _ _ _ _ _ (λ rest. rw c.numbers.ensures at (c.in-Ok.ensures.goes c.line.new.self.number (λ cut. next c.line.new.self.number cut rest))) ((c.in_ok-word.ensures.goes (line_next c.args.n next)))

pub returns-in-Err-clause-stops : goal.returns-in-Err-clause-stops
returns-in-Err-clause-stops g c next =
    fails _ _ _ _ _ c.line.new.self.number c.in-Err.reason c.rejected.ensures (λ rest. rw c.numbers.ensures at (c.in-Err.ensures.stops c.line.new.self.number (λ cut. next c.line.new.self.number cut rest))) ((c.in_ok-word.ensures.goes (line_next c.args.n next)))
