use Rattle.std.proofs.Common.{◌++◌, ◌∷◌, [], List, IsPermutation, get_or, pos, take, sym, subst, arith}
use Rattle.std.specs.BinaryHeap.{heap_items}
use Rattle.std.proofs.lemmas.List.{take_more}
use Rattle.std.proofs.lemmas.List.Sorted.{IsPermutation-refl, IsPermutation-cons, IsPermutation-trans, IsPermutation-to_front}
use Rattle.lop_core.specs.declared.candidates.Candidate.{Candidate}
use Rattle.lop_core.proofs.candidates.put_all.Goals as goal

pub loop-item-init : goal.loop-item-init
loop-item-init c = record {
  so_far = subst (λ (xs : List Candidate). IsPermutation [] xs) (sym c.requires.empty) (IsPermutation-refl []);
  ordered = c.requires.ordered;
  count = c.requires.count;
  room = omega arith;
}

pub loop-item-preserved : goal.loop-item-preserved
loop-item-preserved c =
    let i = c.loop-item.item-index in
    let list = c.args.list.now in
    let x : Candidate = get_or c.args.list.now c.loop-item.item-index (record { bound = pos 0; node = record { 0 = 0 } }) in
    record {
      so_far = subst (λ (xs : List Candidate). IsPermutation xs (heap_items c.put_one.new.heap)) (sym (take_more c.args.list.now c.loop-item.item-index (record { bound = pos 0; node = record { 0 = 0 } }) c.loop-item-test.true))
          (IsPermutation-trans (take i list ++ x ∷ []) (x ∷ take i list) (heap_items c.put_one.new.heap) (IsPermutation-to_front (take i list) x)
          (IsPermutation-trans (x ∷ take i list) (x ∷ heap_items c.loop-item.heap) (heap_items c.put_one.new.heap) (IsPermutation-cons x (take i list) (heap_items c.loop-item.heap) c.loop-item.invariant.so_far) c.put_one.ensures.more));
      ordered = c.put_one.ensures.ordered c.loop-item.invariant.ordered;
      count = omega (arith, c.put_one.ensures.count, c.loop-item.invariant.count);
      room = omega (arith, c.put_one.ensures.room, c.loop-item.invariant.room);
    }
