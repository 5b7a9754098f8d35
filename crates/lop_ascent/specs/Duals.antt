use Rattle.std.specs.Prelude.{◌^◌, List, All, ℤ, pos, ◌≤ℤ◌}

-- multipliers from 0 to 2^58
abbrev pub AreDuals : List ℤ → Type 0
AreDuals duals = All (λ d. (pos 0 ≤ℤ d) × (d ≤ℤ pos (2 ^ 58))) duals
