use Rattle.std.proofs.Common.{ℕ, ◌+◌, inl, inr, ◌∙◌, sym, ap, subst, arith}
use Rattle.lop_leaf.specs.Packing.{pack_triple}
use Rattle.lop_leaf.proofs.PackingLemmas.{in_turn_more}
use Rattle.lop_leaf.specs.Table.{IsPassedPair}
use Rattle.lop_leaf.proofs.SpentLemmas.{later_then, before_or_last, both_later}
use Rattle.lop_leaf.proofs.StillLemmas.{triple_still, passed_pair, in_turn_still}
use Rattle.lop_leaf.proofs.pack.pack_thirds.Goals as goal

pub loop-k-preserved : goal.loop-k-preserved
loop-k-preserved c =
    let n = c.args.weights.now.size in
    let step = pack_triple c.args.weights.now c.args.fixings.now.pairs c.args.i c.args.j in
    record {
      terms = c.pack_both.ensures.terms ∙ ap (step c.loop-k.k) c.loop-k.invariant.terms ∙ sym (in_turn_more (c.args.j + 1) c.loop-k.k step c.args.rec.now.terms (omega (arith, c.loop-k.auto.k)));
      packing = c.pack_both.ensures.packing;
      later = later_then n c.args.rec.now c.args.table.now c.loop-k.rec c.loop-k.table c.pack_both.new.rec c.pack_both.new.table c.loop-k.invariant.later c.pack_both.ensures.later;
      passed = λ k jk l. elim (before_or_last k c.loop-k.k l) [
        | inl before ↦ both_later n c.loop-k.rec c.loop-k.table c.pack_both.new.rec c.pack_both.new.table c.args.i c.args.j k (omega (arith, c.requires.first, c.requires.second)) c.requires.second (omega (arith, c.loop-k.auto.k, before)) c.pack_both.ensures.later (c.loop-k.invariant.passed k jk before)
        | inr last ↦ rw last c.pack_both.ensures.passed
      ];
    }

-- where no cycle over i and j can take anything, the steps that are left change nothing
pub returns-then-is_passed-clause-terms : goal.returns-then-is_passed-clause-terms
returns-then-is_passed-clause-terms c =
    let C = c.args.weights.now in
    let G = c.args.fixings.now.pairs in
    let i = c.args.i in
    let j = c.args.j in
    let pair : IsPassedPair C.size c.loop-k.rec c.loop-k.table i j = subst (λ (n : ℕ). IsPassedPair n c.loop-k.rec c.loop-k.table i j) c.n-n.ensures.size (c.is_passed.ensures c.if-is_passed.true) in
    in_turn_still (j + 1) c.loop-k.k C.size (pack_triple C G i j) c.args.rec.now.terms c.loop-k.rec.terms (omega (arith, c.loop-k.auto.k)) (omega (arith, c.n-n.ensures.size, c.loop-k-test.true)) c.loop-k.invariant.terms
    (λ k lk kn. triple_still C G c.loop-k.rec c.loop-k.table i j k c.loop-k.invariant.packing.residuals c.requires.first (omega (arith, lk, c.loop-k.auto.k)) kn (passed_pair C.size c.loop-k.rec c.loop-k.table i j k pair))

pub returns-then-is_passed-clause-passed : goal.returns-then-is_passed-clause-passed
returns-then-is_passed-clause-passed c k jk kn =
    let C = c.args.weights.now in
    let i = c.args.i in
    let j = c.args.j in
    passed_pair C.size c.loop-k.rec c.loop-k.table i j k (subst (λ (n : ℕ). IsPassedPair n c.loop-k.rec c.loop-k.table i j) c.n-n.ensures.size (c.is_passed.ensures c.if-is_passed.true))
