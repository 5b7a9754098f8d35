use Rattle.std.proofs.Common.{◌≡◌, ℕ, ◌-◌, ◌^◌, ◌<◌, true, false, pos, neg_ℤ, ℤ, ◌-ℤ◌, ◌≤ℤ◌, refl, sym, ◌∙◌, ap, arith, to_z, of_z, FitsSigned}
use Rattle.std.specs.Int.{w64}
use Rattle.std.proofs.lemmas.Int.{ints, to_z-of_z}
use Rattle.lop_model.specs.Fixings.{has_pair}
use Rattle.lop_model.specs.Matrix.{Matrix, entry, margin, absolute_total, IsWeights}
use Rattle.lop_model.proofs.MatrixLemmas.{margin_within}
use Rattle.lop_leaf.proofs.ChargeLemmas.{entry_low}
use Rattle.lop_leaf.proofs.FallLemmas.{false_from_not, not_both}
use Rattle.lop_leaf.proofs.MarginLemmas.{left_out, kept_way, margin-before, margin-after, margin-free, fits_word}
use Rattle.lop_leaf.proofs.margins.margin_of.Goals as goal

-- a number whose word is that of -2^63
is_least : (x : ℤ) → FitsSigned w64 x → of_z w64 x ≡ 9223372036854775808 → x ≡ neg_ℤ (pos (2 ^ 63))
is_least x fits e = sym (to_z-of_z w64 x fits) ∙ ap (to_z w64) e

is_other : (x : ℤ) → (of_z w64 x ≡ 9223372036854775808 → ⊥) → x ≡ neg_ℤ (pos (2 ^ 63)) → ⊥
is_other x h e = h (ap (of_z w64) e)

fits_margin : (C : Matrix) (i j : ℕ) → IsWeights C → i < C.size → j < C.size → FitsSigned w64 (entry C i j -ℤ entry C j i)
fits_margin C i j is l m =
    let within = margin_within C i j l m in
    let high : margin C i j ≤ℤ absolute_total C = within.0 in
    let low : neg_ℤ (absolute_total C) ≤ℤ margin C i j = within.1 in
    let most : absolute_total C ≤ℤ pos (10 ^ 18) = is.bounded_sum in
    fits_word (margin C i j) (omega (arith, ints)) (omega (arith, ints))

pub returns-then-back-eq-LEFT_OUT : goal.returns-then-back-eq-LEFT_OUT
returns-then-back-eq-LEFT_OUT c =
    let C = c.args.weights.now in
    let f = c.args.fixings.now in
    let i = c.args.i in
    let j = c.args.j in
    let low = entry_low C j i c.n-2.ensures.weights (λ e. c.requires.differ (sym e)) c.requires.second c.requires.first in
    let first : has_pair f.pairs i j ≡ true = left_out (has_pair f.pairs i j) (entry C j i) c.args.back low c.requires.back (is_least c.args.back c.ranges.back c.if-back-eq-LEFT_OUT.true) in
    let other : has_pair f.pairs j i ≡ false = false_from_not (has_pair f.pairs j i) (λ t. not_both f i j c.n.ensures.partial_order first t) in
    margin-before C f.pairs i j (pos 9223372036854775807) first other refl

pub returns-then-forth-eq-LEFT_OUT : goal.returns-then-forth-eq-LEFT_OUT
returns-then-forth-eq-LEFT_OUT c =
    let C = c.args.weights.now in
    let f = c.args.fixings.now in
    let i = c.args.i in
    let j = c.args.j in
    let low = entry_low C i j c.n-2.ensures.weights c.requires.differ c.requires.first c.requires.second in
    let back = kept_way (has_pair f.pairs i j) (entry C j i) c.args.back c.requires.back (is_other c.args.back c.if-back-eq-LEFT_OUT.false) in
    let turned : has_pair f.pairs j i ≡ true = left_out (has_pair f.pairs j i) (entry C i j) c.args.forth low c.requires.forth (is_least c.args.forth c.ranges.forth c.if-forth-eq-LEFT_OUT.true) in
    margin-after C f.pairs i j (neg_ℤ (pos (2 ^ 63 - 1))) back.0 turned refl

pub overflow_sub-result-else-forth-eq-LEFT_OUT : goal.overflow_sub-result-else-forth-eq-LEFT_OUT
overflow_sub-result-else-forth-eq-LEFT_OUT c =
    let C = c.args.weights.now in
    let G = c.args.fixings.now.pairs in
    let i = c.args.i in
    let j = c.args.j in
    let back = kept_way (has_pair G i j) (entry C j i) c.args.back c.requires.back (is_other c.args.back c.if-back-eq-LEFT_OUT.false) in
    let forth = kept_way (has_pair G j i) (entry C i j) c.args.forth c.requires.forth (is_other c.args.forth c.if-forth-eq-LEFT_OUT.false) in
    let one : to_z w64 (of_z w64 c.args.forth) ≡ entry C i j = to_z-of_z w64 c.args.forth c.ranges.forth ∙ forth.1 in
    let two : to_z w64 (of_z w64 c.args.back) ≡ entry C j i = to_z-of_z w64 c.args.back c.ranges.back ∙ back.1 in
    rw (one, two) (fits_margin C i j c.n-2.ensures.weights c.requires.first c.requires.second)

pub returns-else-forth-eq-LEFT_OUT : goal.returns-else-forth-eq-LEFT_OUT
returns-else-forth-eq-LEFT_OUT c =
    let C = c.args.weights.now in
    let G = c.args.fixings.now.pairs in
    let i = c.args.i in
    let j = c.args.j in
    let back = kept_way (has_pair G i j) (entry C j i) c.args.back c.requires.back (is_other c.args.back c.if-back-eq-LEFT_OUT.false) in
    let forth = kept_way (has_pair G j i) (entry C i j) c.args.forth c.requires.forth (is_other c.args.forth c.if-forth-eq-LEFT_OUT.false) in
    let one : to_z w64 (of_z w64 c.args.forth) ≡ entry C i j = to_z-of_z w64 c.args.forth c.ranges.forth ∙ forth.1 in
    let two : to_z w64 (of_z w64 c.args.back) ≡ entry C j i = to_z-of_z w64 c.args.back c.ranges.back ∙ back.1 in
    let fits : FitsSigned w64 (entry C i j -ℤ entry C j i) = fits_margin C i j c.n-2.ensures.weights c.requires.first c.requires.second in
    margin-free C G i j _ c.n-2.ensures.weights c.requires.first c.requires.second c.requires.differ back.0 forth.0
    (ap (λ x. to_z w64 (of_z w64 (x -ℤ to_z w64 (of_z w64 c.args.back)))) one ∙ ap (λ x. to_z w64 (of_z w64 (entry C i j -ℤ x))) two ∙ to_z-of_z w64 (entry C i j -ℤ entry C j i) fits)
