use Rattle.std.proofs.Common.{◌≡◌, ◌+◌, ◌*◌, ◌<◌, ◌≤◌, ◌^◌, Fits, w64, length, slice_index, sym, ◌∙◌, ap, rules, arith}
use Rattle.std.specs.Prelude.{count_ones}
use Rattle.std.proofs.lemmas.Nat.{mul-add-lt, ones-le}
use Rattle.lop_model.specs.Sums.{count_below}
use Rattle.lop_model.proofs.CountLemmas.{count_below-add}
use Rattle.lop_fix.specs.Table.{row_words, word, at}
use Rattle.lop_fix.proofs.CountedBits.{count_word}
use Rattle.lop_fix.proofs.table.whole_ones.Goals as goal

pub loop-k-preserved : goal.loop-k-preserved
loop-k-preserved c =
    let t = c.args.words.now in
    let n = c.args.n in
    let a = c.args.a in
    let k = c.loop-k.k in
    let f = at t n a in
    let in_row : k < row_words n = omega arith in
    let in_table : a * row_words n + k < length t = omega (arith, mul-add-lt a (row_words n) k n c.requires.row in_row) in
    let fits : Fits w64 (slice_index t (a * row_words n + k)) = search rules in
    let small : word t (row_words n) a k < 2 ^ 64 = omega arith in
    let here : count_ones (slice_index t (a * c.row_words.result + k)) ≡ count_below 64 (λ i. f (k * 64 + i)) =
    ap (λ w. count_ones (slice_index t (a * w + k))) c.row_words.ensures ∙ sym (count_word t n a k small) in
    let same : count_ones (slice_index t (a * c.row_words.result + k)) ≡ count_ones (word t (row_words n) a k) = ap (λ w. count_ones (slice_index t (a * w + k))) c.row_words.ensures in
    let most : count_ones (word t (row_words n) a k) ≤ 64 = ones-le 64 (word t (row_words n) a k) small in
    let place : (k + 1) * 64 ≡ k * 64 + 64 = omega arith in
    let more : count_below ((k + 1) * 64) f ≡ count_below (k * 64) f + count_below 64 (λ i. f (k * 64 + i)) =
    ap (λ m. count_below m f) place ∙ count_below-add (k * 64) 64 f in
    record { counted = omega (arith, here, more); few = omega (arith, same, most) }
