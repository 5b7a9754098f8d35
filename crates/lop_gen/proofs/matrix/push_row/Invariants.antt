use Rattle.std.proofs.Common.{◌≡◌, ◌++◌}
use Rattle.rand_pcg.specs.Lcg.{advance}
use Rattle.rand_pcg.specs.Pcg.{multiplier_64}
use Rattle.lop_gen.specs.Drawn.{draws_before, drawn_columns}
use Rattle.lop_gen.proofs.matrix.push_row.Given as goal

abbrev pub invariant-loop-column : goal.invariant-loop-column
invariant-loop-column l = record {
  entries : l.entries.items ≡ l.initial.entries.items ++ drawn_columns l.initial.generator l.row l.column;
  drawn : l.generator ≡ advance 64 multiplier_64 (draws_before l.row l.column) l.initial.generator;
}
