use Rattle.std.proofs.Common.{◌≡◌, ℕ, ◌+◌, ◌^◌, ◌<◌, pos, get_or, ℤ, ◌+ℤ◌, ◌∙◌, sym, subst, rules, arith, to_z, of_z, FitsSigned}
use Rattle.std.specs.Int.{w64}
use Rattle.std.proofs.lemmas.Int.{ints, to_z-of_z}
use Rattle.lop_model.specs.Sums.{sum_below, above}
use Rattle.lop_model.specs.Matrix.{entry}
use Rattle.lop_model.specs.Bound.{pair_value}
use Rattle.lop_model.proofs.SumLemmas.{sum_below_more}
use Rattle.lop_model.proofs.RowSums.{above_is, row_start, IsBetween}
use Rattle.lop_leaf.proofs.MarginLemmas.{row_within, fits_word}
use Rattle.lop_leaf.proofs.rows.row_sum.Goals as goal

pub loop-j-init : goal.loop-j-init
loop-j-init c = record { sum_so_far = sym (row_start (pair_value c.args.fixings.now.pairs (entry c.args.weights.now)) c.args.i) }

-- the sum with one more place
step : (s x : ℤ) (j i : ℕ) (f : ℕ → ℕ → ℤ) → i < j → s ≡ sum_below j (above f i) → x ≡ f i j → s +ℤ x ≡ sum_below (j + 1) (above f i)
step s x j i f l e g = omega (arith, ints, sum_below_more j (above f i), above_is f i j l)

fits_step : (s : ℤ) (j i : ℕ) (f : ℕ → ℕ → ℤ) → s ≡ sum_below (j + 1) (above f i) → IsBetween (sum_below (j + 1) (above f i)) (pos (10 ^ 18)) → FitsSigned w64 s
fits_step s j i f e b = let low = b.low in let high = b.high in subst (λ x. FitsSigned w64 x) (sym e) (fits_word (sum_below (j + 1) (above f i)) low high)

pub overflow_add-sum : goal.overflow_add-sum
overflow_add-sum c =
    let C = c.args.weights.now in
    let G = c.args.fixings.now.pairs in
    let f = pair_value G (entry C) in
    let i = c.args.i in
    let j = c.loop-j.j in
    let up : i < j = omega (arith, c.loop-j.auto.j) in
    let within : j < C.size = omega (arith, c.n-n.ensures.size, c.loop-j-test.true) in
    let fits : FitsSigned w64 (get_or c.args.greater.now j (pos 0)) = search rules in
    let read : to_z w64 (of_z w64 (get_or c.args.greater.now j (pos 0))) ≡ f i j = to_z-of_z w64 _ fits ∙ c.requires.each j up within in
    fits_step _ j i f (step _ _ j i f up c.loop-j.invariant.sum_so_far read) (row_within C G (j + 1) i c.n-n.ensures.weights c.requires.object (omega arith))

pub loop-j-preserved : goal.loop-j-preserved
loop-j-preserved c =
    let C = c.args.weights.now in
    let G = c.args.fixings.now.pairs in
    let f = pair_value G (entry C) in
    let i = c.args.i in
    let j = c.loop-j.j in
    let up : i < j = omega (arith, c.loop-j.auto.j) in
    let within : j < C.size = omega (arith, c.n-n.ensures.size, c.loop-j-test.true) in
    let fits : FitsSigned w64 (get_or c.args.greater.now j (pos 0)) = search rules in
    let read : to_z w64 (of_z w64 (get_or c.args.greater.now j (pos 0))) ≡ f i j = to_z-of_z w64 _ fits ∙ c.requires.each j up within in
    let sum : to_z w64 c.loop-j.sum-bits +ℤ to_z w64 (of_z w64 (get_or c.args.greater.now j (pos 0))) ≡ sum_below (j + 1) (above f i) = step _ _ j i f up c.loop-j.invariant.sum_so_far read in
    let whole : FitsSigned w64 (to_z w64 c.loop-j.sum-bits +ℤ to_z w64 (of_z w64 (get_or c.args.greater.now j (pos 0)))) = fits_step _ j i f sum (row_within C G (j + 1) i c.n-n.ensures.weights c.requires.object (omega arith)) in
    record { sum_so_far = to_z-of_z w64 _ whole ∙ sum }
