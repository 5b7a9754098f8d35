use Rattle.std.proofs.Common.{◌≡◌, ◌<◌, ◌*◌, ◌+◌, ℕ, length, set, to_z, of_z, ◌∙◌, sym, subst, rules, arith, FitsSigned}
use Rattle.std.specs.Int.{w64}
use Rattle.std.proofs.lemmas.Int.{to_z-of_z}
use Rattle.std.proofs.lemmas.List.{length-set}
use Rattle.lop_leaf.specs.Table.{signed, IsMargin}
use Rattle.lop_leaf.proofs.MarginLemmas.{row_more, rows_before}
use Rattle.lop_leaf.proofs.margins.write_row.Goals as goal

pub loop-j-preserved : goal.loop-j-preserved
loop-j-preserved c =
    let C = c.args.weights.now in
    let G = c.args.fixings.now.pairs in
    let i = c.args.i in
    let j = c.loop-j.j in
    let t = c.loop-j.table in
    let fits : FitsSigned w64 c.margin_of.result = search rules in
    let v = to_z w64 (of_z w64 c.margin_of.result) in
    let is : IsMargin C G i j v = subst (λ z. IsMargin C G i j z) (sym (to_z-of_z w64 c.margin_of.result fits)) c.margin_of.ensures in
    let size : c.n-n.result ≡ C.size = c.n-n.ensures.size in
    let whole : length t ≡ C.size * C.size = c.loop-j.invariant.same_length ∙ c.requires.square in
    let up : i < j = omega (arith, c.loop-j.auto.j) in
    let within : j < C.size = omega (arith, size, c.loop-j-test.true) in
    record {
      same_length = length-set t _ v ∙ c.loop-j.invariant.same_length;
      here = subst (λ (n : ℕ). (k : ℕ) → i < k → k < j + 1 → IsMargin C G i k (signed (set t (i * n + j) v) C.size i k)) (sym size) (row_more C G t i j v whole up within is c.loop-j.invariant.here);
      others = λ x y xi xy yn. subst (λ (n : ℕ). signed (set t (i * n + j) v) C.size x y ≡ signed t C.size x y) (sym size) (rows_before t C.size i j x y v whole up within xi xy yn) ∙ c.loop-j.invariant.others x y xi xy yn;
    }
