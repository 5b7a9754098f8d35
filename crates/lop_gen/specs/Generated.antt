-- Generated matrices.
use Rattle.std.specs.Prelude.{ℕ, ◌+◌, ◌-◌, ◌*◌, ◌%◌, ◌==◌, List, map, nat_lt, ℤ, pos, if◌then◌else◌}
use Rattle.std.specs.List.{range_with_len}
use Rattle.rand_core.specs.Pcg32Seed.{pcg32_seed}
use Rattle.rand_pcg.specs.Lcg.{Lcg, advance}
use Rattle.rand_pcg.specs.Pcg.{multiplier_64, output_xsh_rr, pcg32_of_seed}
use Rattle.lop_model.specs.Matrix.{Matrix}

-- the generator of a seed
abbrev pub generator_of : ℕ → Lcg
generator_of seed = pcg32_of_seed (pcg32_seed 16 seed)

-- its k-th word of 32 bits, where k counts from 0
abbrev pub word_at : ℕ → ℕ → ℕ
word_at seed k = output_xsh_rr (advance 64 multiplier_64 k (generator_of seed)).state

-- how many entries off the diagonal stand before row i and column j, row by row
abbrev pub entries_before : ℕ → ℕ → ℕ → ℕ
entries_before n i j = i * (n - 1) + (if nat_lt i j then j - 1 else j)

-- 0 on the diagonal, and off it the next word modulo 1,000
abbrev pub generated_entry : ℕ → ℕ → ℕ → ℕ → ℤ
generated_entry seed n i j = if i == j then pos 0 else pos (word_at seed (entries_before n i j) % 1000)

abbrev pub generated_row : ℕ → ℕ → ℕ → List ℤ
generated_row seed n i = map (λ j. generated_entry seed n i j) (range_with_len 0 n)

-- the matrix of n objects that a seed gives
abbrev pub generated_matrix : ℕ → ℕ → Matrix
generated_matrix seed n = record { size = n; rows = map (λ i. generated_row seed n i) (range_with_len 0 n) }
