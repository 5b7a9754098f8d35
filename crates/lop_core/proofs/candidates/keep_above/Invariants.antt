use Rattle.std.proofs.Common.{◌≡◌, ◌≤◌, length, take}
use Rattle.std.specs.Prelude.{filter, int_lt, vec_capacity}
use Rattle.lop_core.specs.declared.candidates.Candidate.{Candidate}
use Rattle.lop_core.proofs.candidates.keep_above.Given as goal

abbrev pub invariant-loop-item : goal.invariant-loop-item
invariant-loop-item l = record {
  so_far : l.into.items ≡ filter (λ (c : Candidate). int_lt l.best c.bound) (take l.item-index l.all);
  within : length l.into.items ≤ l.item-index;
  room : vec_capacity l.initial.into ≤ vec_capacity l.into;
}
