use Rattle.std.proofs.Common.{◌≡◌, min, neg_ℤ, ◌∙◌, ap, rules, FitsSigned}
use Rattle.std.specs.Int.{w64, int_min}
use Rattle.std.proofs.lemmas.Int.{to_z-of_z}
use Rattle.lop_leaf.specs.Packing.{positive_part}
use Rattle.lop_leaf.specs.Table.{slack}
use Rattle.lop_leaf.proofs.MarginLemmas.{part_least, slack_turned, turned_word}
use Rattle.lop_leaf.proofs.margins.least_back.Goals as goal

pub returns : goal.returns
returns c =
    let t = c.args.table.now in
    let n = c.args.n in
    let i = c.args.i in
    let j = c.args.j in
    let k = c.args.k in
    let x = c.margin_at-first.result in
    let y = c.margin_at-second.result in
    let z = c.margin_at-third.result in
    let fits_x : FitsSigned w64 x = search rules in
    let fits_y : FitsSigned w64 y = search rules in
    let fits_z : FitsSigned w64 z = search rules in
    let fits_two : FitsSigned w64 c.min.result = search rules in
    let fits_all : FitsSigned w64 c.min-2.result = search rules in
    let turned_y = turned_word y c.margin_at-second.ensures.low fits_y in
    let turned_z = turned_word z c.margin_at-third.ensures.low fits_z in
    let two : c.min.result ≡ int_min (neg_ℤ y) (neg_ℤ z) = cc (c.min.ensures.value, turned_y, turned_z) in
    let all : c.min-2.result ≡ int_min x c.min.result = cc (c.min-2.ensures.value, to_z-of_z w64 x fits_x, to_z-of_z w64 c.min.result fits_two) in
    let value : c.positive.result ≡ positive_part c.min-2.result = cc (c.positive.ensures, to_z-of_z w64 c.min-2.result fits_all) in
    let one : positive_part x ≡ slack t n i k = ap positive_part c.margin_at-first.ensures.value in
    let other : positive_part (neg_ℤ y) ≡ slack t n k j = ap (λ v. positive_part (neg_ℤ v)) c.margin_at-second.ensures.value ∙ slack_turned t n j k c.requires.second in
    let last : positive_part (neg_ℤ z) ≡ slack t n j i = ap (λ v. positive_part (neg_ℤ v)) c.margin_at-third.ensures.value ∙ slack_turned t n i j c.requires.first in
    value ∙ ap positive_part all ∙ ap (λ v. positive_part (int_min x v)) two ∙ part_least x (neg_ℤ y) (neg_ℤ z)
    ∙ ap (λ p. min p (min (positive_part (neg_ℤ y)) (positive_part (neg_ℤ z)))) one
    ∙ ap (λ p. min (slack t n i k) (min p (positive_part (neg_ℤ z)))) other
    ∙ ap (λ p. min (slack t n i k) (min (slack t n k j) p)) last
