use Rattle.std.proofs.Common.{◌≡◌, ◌*◌, ◌^◌, ◌/◌, ◌%◌, ◌-◌, min, ap, ◌∙◌}
use Rattle.std.specs.Int.{w64}
use Rattle.std.proofs.lemmas.Int.{to_z-of_z}
use Rattle.lop_leaf.specs.Packing.{positive_part}
use Rattle.lop_leaf.proofs.HintLemmas.{shifted}
use Rattle.lop_leaf.proofs.hints.rounded.Goals as goal

pub returns-clause-value : goal.returns-clause-value
returns-clause-value c =
    let p = c.positive_part.result in
    let scale = c.args.scale in
    let shift = c.args.shift in
    let part : p ≡ positive_part c.args.dual = c.positive_part.ensures.value ∙ ap positive_part (to_z-of_z w64 c.args.dual c.ranges.dual) in
    c.min.ensures
    ∙ ap (λ k. min (k * c.from-2.result * 2 ^ shift % 2 ^ 128 / 2 ^ 32) (2 ^ 63 - 1)) c.from.ensures
    ∙ ap (λ k. min (p * k * 2 ^ shift % 2 ^ 128 / 2 ^ 32) (2 ^ 63 - 1)) c.from-2.ensures
    ∙ ap (λ k. min k (2 ^ 63 - 1)) (shifted p scale shift c.positive_part.ensures.within_limit c.requires.within_limit c.requires.shift)
    ∙ ap (λ k. min (k * scale * 2 ^ shift / 2 ^ 32) (2 ^ 63 - 1)) part
