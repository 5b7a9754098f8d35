use Rattle.std.proofs.Common.{ℤ, IsPermutation, subst}
use Rattle.std.specs.Prelude.{filter, int_lt}
use Rattle.std.proofs.lemmas.Int.{to_z-of_z}
use mir.Syntax.{w128}
use Rattle.lop_core.specs.declared.candidates.Candidate.{Candidate}
use Rattle.lop_core.specs.Candidates.{candidates_of}
use Rattle.lop_core.proofs.CandidateSteps.{raised_candidates}
use Rattle.lop_core.proofs.candidates.Candidates.raise.Goals as goal

pub returns-then-to-from-clause-kept : goal.returns-then-to-from-clause-kept
returns-then-to-from-clause-kept c =
    raised_candidates c.args.nodes.now c.args.from c.args.to (candidates_of c.args.self.now) (candidates_of c.drop_up_to.new.self) c.requires.kept c.requires.rises
    (subst (λ (z : ℤ). IsPermutation (filter (λ (x : Candidate). int_lt z x.bound) (candidates_of c.args.self.now)) (candidates_of c.drop_up_to.new.self)) (to_z-of_z w128 c.args.to c.ranges.to) c.drop_up_to.ensures.kept)
    c.drop_up_to.ensures.ordered
