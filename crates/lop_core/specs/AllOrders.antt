-- How many orders of n objects there are.
use Rattle.std.specs.Prelude.{ℕ, zero, suc, ◌*◌}

-- n!: 1 * 2 * .. * n, and 1 where n is 0
abbrev pub factorial : ℕ → ℕ
factorial zero = 1
factorial (suc n) = suc n * factorial n
