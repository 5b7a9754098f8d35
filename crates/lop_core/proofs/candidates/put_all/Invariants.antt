use Rattle.std.proofs.Common.{◌≡◌, ◌≤◌, IsPermutation, take}
use Rattle.std.specs.BinaryHeap.{IsHeap, heap_items, heap_len, heap_capacity}
use Rattle.lop_core.specs.Candidates.{candidate_order}
use Rattle.lop_core.proofs.candidates.put_all.Given as goal

abbrev pub invariant-loop-item : goal.invariant-loop-item
invariant-loop-item l = record {
  so_far : IsPermutation (take l.item-index l.list) (heap_items l.heap);
  ordered : IsHeap candidate_order (heap_items l.heap);
  count : heap_len l.heap ≡ l.item-index;
  room : heap_capacity l.initial.heap ≤ heap_capacity l.heap;
}
