use Rattle.std.proofs.Common.{◌≡◌, ◌≤◌, ◌++◌, take}
use Rattle.std.specs.Prelude.{vec_capacity}
use Rattle.lop_core.proofs.records.append_terms.Given as goal

abbrev pub invariant-loop-term : goal.invariant-loop-term
invariant-loop-term l = record {
  so_far : l.room.items ≡ l.initial.room.items ++ take l.term-index l.terms;
  grown : vec_capacity l.initial.room ≤ vec_capacity l.room;
}
