use Rattle.std.proofs.Common.{◌≡◌, ◌+◌, ◌-◌, ◌++◌, length, take, ◌∙◌, ap, arith}
use Rattle.lop_cuts.specs.CutList.{BoundedCuts}
use Rattle.lop_sep3.specs.Dicycles.{violated_dicycles}
use Rattle.lop_sep3.proofs.DicycleLemmas.{appended_violated}
use Rattle.lop_sep3.proofs.dicycles.violated_dicycles.Goals as goal

pub returns-clause-sound : goal.returns-clause-sound
returns-clause-sound c =
    let p = c.args.point.now in
    let old = c.args.list.now.cuts in
    let left : c.len-start.result + c.args.limit - length old ≡ c.args.limit = omega (arith, c.len-start.ensures) in
    appended_violated p c.args.limit old c.search_all-more.new.list.cuts
    (ap (λ (l : BoundedCuts). l.cuts) c.search_all-more.ensures.list ∙ ap (λ k. old ++ take k (violated_dicycles p)) left)
