use Rattle.std.proofs.Common.{List, length, ap, subst, arith}
use Rattle.lop_cuts.specs.declared.kind.CutKind.{CutKind}
use Rattle.lop_core.specs.CutIndex.{IsCutIndex}
use Rattle.lop_core.proofs.MergeLemmas.{pending_none}
use Rattle.lop_core.proofs.cut_index.CutIndex.settle.Goals as goal

pub merge-requires-clause-pending : goal.merge-requires-clause-pending
merge-requires-clause-pending c = rw (c.deref.ensures.value, c.deref-2.ensures.value, c.deref-3.ensures.value) c.self.invariant.1

pub merge-requires-clause-few : goal.merge-requires-clause-few
merge-requires-clause-few c = omega (arith, c.self.invariant.3.few, ap length c.deref.ensures.value)

pub invariant_of-self : goal.invariant_of-self
invariant_of-self c =
    let index : IsCutIndex c.self.inside.cuts.items c.merge.new.index.items = subst (λ (cs : List CutKind). IsCutIndex cs c.merge.new.index.items) c.deref.ensures.value c.merge.ensures.index in (
      c.self.invariant.0,
      rw (c.clear.ensures.items, c.clear-2.ensures.items) (pending_none c.self.inside.cuts.items c.merge.new.index.items index),
      c.merge.ensures.room,
      record {
        few = c.self.invariant.3.few;
        for_cuts = c.self.invariant.3.for_cuts;
        for_fresh = omega (arith, c.self.invariant.3.for_fresh, c.clear.ensures.capacity);
        for_places = omega (arith, c.self.invariant.3.for_places, c.clear-2.ensures.capacity);
      },
    )
