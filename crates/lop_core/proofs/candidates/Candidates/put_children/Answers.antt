use Rattle.std.proofs.Common.{◌+◌, ◌∷◌, ℤ, subst, IsPermutation}
use Rattle.std.proofs.lemmas.Int.{to_z-of_z}
use Rattle.std.proofs.lemmas.List.Sorted.{IsPermutation-cons, IsPermutation-trans}
use mir.Syntax.{w128}
use Rattle.lop_core.specs.Candidates.{candidate, candidates_of}
use Rattle.lop_core.proofs.candidates.Candidates.put_children.Goals as goal

pub returns-in-Some-clause-split : goal.returns-in-Some-clause-split
returns-in-Some-clause-split c =
    rw c.in-Some.is (subst (λ (b : ℤ). IsPermutation (candidate b (c.in-Some.number + 1) ∷ candidate b c.in-Some.number ∷ candidates_of c.args.self.now) (candidates_of c.put-in-Some.new.self))
    (to_z-of_z w128 c.args.bound c.ranges.bound)
    (IsPermutation-trans _ _ _ (IsPermutation-cons _ _ _ c.put.ensures.more) c.put-in-Some.ensures.more))
