use Rattle.std.proofs.Common.{sym, ◌∙◌, arith}
use Rattle.std.proofs.lemmas.Bool.{false≢true}
use Rattle.lop_cuts.proofs.ObjectLemmas.{IsDistinct-none, IsDistinct_more}
use Rattle.lop_cuts.proofs.FaultLemmas.{repeated_by_test}
use Rattle.lop_cuts.proofs.objects.are_distinct.Goals as goal

pub loop-place-init : goal.loop-place-init
loop-place-init c = IsDistinct-none

pub loop-place-preserved : goal.loop-place-preserved
loop-place-preserved c =
    IsDistinct_more c.args.objects.now c.loop-place.place (omega arith) (sym c.contains.ensures.value ∙ c.if-contains.false) c.loop-place.invariant

pub returns-then-contains : goal.returns-then-contains
returns-then-contains c =
    (λ t. absurd (false≢true t), λ d. absurd (repeated_by_test c.args.objects.now c.loop-place.place (omega arith) (sym c.contains.ensures.value ∙ c.if-contains.true) d))
