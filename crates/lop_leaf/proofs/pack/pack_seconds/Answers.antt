use Rattle.std.proofs.Common.{ℕ, ◌+◌, ◌<◌, inl, inr, ◌∙◌, sym, ap, subst, arith}
use Rattle.lop_leaf.specs.Packing.{pack_pair}
use Rattle.lop_leaf.specs.Table.{ArePassed}
use Rattle.lop_leaf.proofs.PackingLemmas.{in_turn_more}
use Rattle.lop_leaf.proofs.SpentLemmas.{later_then, before_or_last, both_later}
use Rattle.lop_leaf.proofs.pack.pack_seconds.Goals as goal

pub loop-j-preserved : goal.loop-j-preserved
loop-j-preserved c =
    let n = c.args.weights.now.size in
    let step = pack_pair c.args.weights.now c.args.fixings.now.pairs c.args.i in
    record {
      terms = c.pack_thirds.ensures.terms ∙ ap (step c.loop-j.j) c.loop-j.invariant.terms ∙ sym (in_turn_more (c.args.i + 1) c.loop-j.j step c.args.rec.now.terms (omega (arith, c.loop-j.auto.j)));
      packing = c.pack_thirds.ensures.packing;
      later = later_then n c.args.rec.now c.args.table.now c.loop-j.rec c.loop-j.table c.pack_thirds.new.rec c.pack_thirds.new.table c.loop-j.invariant.later c.pack_thirds.ensures.later;
      passed = λ j k ij l jk kn. elim (before_or_last j c.loop-j.j l) [
        | inl before ↦ both_later n c.loop-j.rec c.loop-j.table c.pack_thirds.new.rec c.pack_thirds.new.table c.args.i j k c.requires.first (omega (arith, jk, kn)) kn c.pack_thirds.ensures.later (c.loop-j.invariant.passed j k ij before jk kn)
        | inr last ↦ subst (λ (m : ℕ). m < k → ArePassed n c.pack_thirds.new.rec c.pack_thirds.new.table c.args.i m k) (sym last) (λ m. c.pack_thirds.ensures.passed k m kn) jk
      ];
    }
