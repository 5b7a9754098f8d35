use Rattle.std.proofs.Common.{◌≡◌}
use Rattle.std.specs.Prelude.{All, vec_len}
use Rattle.lop_tool.proofs.search.judges_for.Given as goal

abbrev pub invariant-loop : goal.invariant-loop
invariant-loop l = record {
  count : vec_len l.judges ≡ l.counter;
  same_n : All (λ j. j ≡ l.n) l.judges.items;
}
