use Rattle.std.proofs.Common.{ℕ, ◌<◌, ◌≤◌, inl, inr, [], ◌∙◌, sym, ap, subst, rules, arith}
use Rattle.lop_leaf.specs.Packing.{pack_object}
use Rattle.lop_leaf.specs.Table.{ArePassed}
use Rattle.lop_leaf.proofs.PackingLemmas.{in_turn_next}
use Rattle.lop_leaf.proofs.SpentLemmas.{before_or_last, both_later}
use Rattle.lop_leaf.proofs.pack.pack_all.Goals as goal

pub loop-i-preserved : goal.loop-i-preserved
loop-i-preserved c =
    let n = c.args.weights.now.size in
    let step = pack_object c.args.weights.now c.args.fixings.now.pairs in
    record {
      terms = c.pack_seconds.ensures.terms ∙ ap (step c.loop-i.i) c.loop-i.invariant.terms ∙ sym (in_turn_next c.loop-i.i step []);
      packing = c.pack_seconds.ensures.packing;
      passed = λ i j k l ij jk kn. elim (before_or_last i c.loop-i.i l) [
        | inl before ↦ both_later n c.loop-i.rec c.loop-i.table c.pack_seconds.new.rec c.pack_seconds.new.table i j k (omega (arith, ij, jk, kn)) (omega (arith, jk, kn)) kn c.pack_seconds.ensures.later (c.loop-i.invariant.passed i j k before ij jk kn)
        | inr last ↦ subst (λ (m : ℕ). m < j → ArePassed n c.pack_seconds.new.rec c.pack_seconds.new.table m j k) (sym last) (λ m. c.pack_seconds.ensures.passed j k m jk kn) ij
      ];
    }

pub returns-clause-passed : goal.returns-clause-passed
returns-clause-passed c i j k ij jk kn =
    let all : c.args.weights.now.size ≤ c.loop-i.i = search rules in
    c.loop-i.invariant.passed i j k (omega (arith, all, ij, jk, kn)) ij jk kn
