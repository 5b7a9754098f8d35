-- How the program's own desk counts its faults.
use Rattle.std.specs.Prelude.{◌≡◌, ℕ, Result, MatchResult}
use Rattle.lop_desk.specs.MemoryState.{one_more}

-- an Ok leaves the count, and an Err raises it by exactly one, or leaves it at its end
abbrev pub CountsFault : {T E : Type 0} → ℕ → ℕ → Result T E → Type 0
CountsFault before now result = MatchResult result (λ _. now ≡ before) (λ _. now ≡ one_more before)
