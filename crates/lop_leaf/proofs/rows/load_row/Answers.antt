use Rattle.std.proofs.Common.{◌≡◌, ◌<◌, length, ◌∙◌, rules, arith, to_z, of_z, FitsSigned}
use Rattle.std.specs.Int.{w64}
use Rattle.std.proofs.lemmas.Int.{to_z-of_z}
use Rattle.std.proofs.lemmas.List.{length-set}
use Rattle.lop_leaf.specs.Table.{way}
use Rattle.lop_leaf.proofs.MarginLemmas.{written}
use Rattle.lop_leaf.proofs.rows.load_row.Goals as goal

pub loop-j-preserved : goal.loop-j-preserved
loop-j-preserved c =
    let C = c.args.weights.now in
    let G = c.args.fixings.now.pairs in
    let i = c.args.i in
    let j = c.loop-j.j in
    let ways = c.ways_of-ways.result in
    let fits_forth : FitsSigned w64 ways.forth = search rules in
    let fits_back : FitsSigned w64 ways.back = search rules in
    let forth : to_z w64 (of_z w64 ways.forth) ≡ way C G i j = to_z-of_z w64 ways.forth fits_forth ∙ c.ways_of-ways.ensures.forth in
    let back : to_z w64 (of_z w64 ways.back) ≡ way C G j i = to_z-of_z w64 ways.back fits_back ∙ c.ways_of-ways.ensures.back in
    let in_forth : j < length c.loop-j.forth = omega (arith, c.loop-j.invariant.same_length, c.requires.forth, c.loop-j-test.true, c.n-n.ensures.size) in
    let in_back : j < length c.loop-j.back = omega (arith, c.loop-j.invariant.same_length_back, c.requires.back, c.loop-j-test.true, c.n-n.ensures.size) in
    record {
      same_length = length-set c.loop-j.forth j _ ∙ c.loop-j.invariant.same_length;
      same_length_back = length-set c.loop-j.back j _ ∙ c.loop-j.invariant.same_length_back;
      forth = written c.loop-j.forth j i (to_z w64 (of_z w64 ways.forth)) (λ k. way C G i k) in_forth forth c.loop-j.invariant.forth;
      back = written c.loop-j.back j i (to_z w64 (of_z w64 ways.back)) (λ k. way C G k i) in_back back c.loop-j.invariant.back;
    }
