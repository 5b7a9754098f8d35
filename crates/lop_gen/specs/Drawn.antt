-- A row, by the generator with which it begins.
use Rattle.std.specs.Prelude.{ℕ, ◌-◌, ◌%◌, ◌==◌, List, map, nat_lt, ℤ, pos, if◌then◌else◌}
use Rattle.std.specs.List.{range_with_len}
use Rattle.rand_pcg.specs.Lcg.{Lcg, advance}
use Rattle.rand_pcg.specs.Pcg.{multiplier_64, output_xsh_rr}

-- how many words a row draws before a column
abbrev pub draws_before : ℕ → ℕ → ℕ
draws_before i j = if nat_lt i j then j - 1 else j

abbrev pub drawn_entry : Lcg → ℕ → ℕ → ℤ
drawn_entry g i j = if i == j then pos 0 else pos (output_xsh_rr (advance 64 multiplier_64 (draws_before i j) g).state % 1000)

-- the first columns of row i
abbrev pub drawn_columns : Lcg → ℕ → ℕ → List ℤ
drawn_columns g i columns = map (λ j. drawn_entry g i j) (range_with_len 0 columns)

-- row i of n columns
abbrev pub drawn_row : Lcg → ℕ → ℕ → List ℤ
drawn_row g n i = drawn_columns g i n
