use Rattle.std.proofs.Common.{◌≡◌, ◌-◌, ◌*◌}
use Rattle.std.specs.List.{flat_map, range_with_len}
use Rattle.rand_pcg.specs.Lcg.{advance}
use Rattle.rand_pcg.specs.Pcg.{multiplier_64}
use Rattle.lop_gen.specs.Generated.{generator_of, generated_row}
use Rattle.lop_gen.proofs.matrix.generate.Given as goal

abbrev pub invariant-loop-row : goal.invariant-loop-row
invariant-loop-row l = record {
  entries : l.entries.items ≡ flat_map (λ i. generated_row l.seed l.n i) (range_with_len 0 l.row);
  drawn : l.generator ≡ advance 64 multiplier_64 (l.row * (l.n - 1)) (generator_of l.seed);
}
