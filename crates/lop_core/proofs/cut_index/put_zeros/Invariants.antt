use Rattle.std.proofs.Common.{◌≡◌, ◌+◌, ◌≤◌, length, take}
use Rattle.std.specs.Prelude.{vec_capacity}
use Rattle.lop_core.proofs.cut_index.put_zeros.Given as goal

abbrev pub invariant-loop : goal.invariant-loop
invariant-loop l = record {
  front : take (length l.initial.list.items) l.list.items ≡ l.initial.list.items;
  count : length l.list.items ≡ length l.initial.list.items + l.counter;
  grown : vec_capacity l.initial.list ≤ vec_capacity l.list;
}
