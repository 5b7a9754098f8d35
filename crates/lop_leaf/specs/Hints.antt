-- The record that hints are rounded to: the multipliers of a dual solution at a scale, in whole numbers.
use Rattle.std.specs.Prelude.{ℕ, ◌*◌, ◌/◌, ◌-◌, ◌^◌, nat_lt, min, List, map, filter, ℤ}
use Rattle.std.specs.List.{zip}
use Rattle.lop_cuts.specs.declared.kind.CutKind.{CutKind}
use Rattle.lop_cuts.specs.Lagrangian.{Term}
use Rattle.lop_leaf.specs.Record.{ScaledTerms}
use Rattle.lop_leaf.specs.Packing.{positive_part}

-- a dual in units of 2^-32, times the scale and 2^shift, rounded down to at most the greatest multiplier. A negative one gives 0
abbrev pub rounded_multiplier : ℕ → ℕ → ℤ → ℕ
rounded_multiplier shift scale dual = min (positive_part dual * scale * 2 ^ shift / 2 ^ 32) (2 ^ 63 - 1)

-- a cut with the multiplier of its dual
abbrev pub rounded_term : ℕ → ℕ → CutKind × ℤ → Term
rounded_term shift scale hint = record { cut = hint.0; multiplier = rounded_multiplier shift scale hint.1 }

-- the cuts with the multipliers of their duals, where these are positive
abbrev pub rounded_terms : ℕ → ℕ → List CutKind → List ℤ → List Term
rounded_terms shift scale cuts duals =
    filter (λ t. nat_lt 0 t.multiplier) (map (rounded_term shift scale) (zip cuts duals))

-- these terms at the scale
abbrev pub rounded_hints : ℕ → ℕ → List CutKind → List ℤ → ScaledTerms
rounded_hints shift scale cuts duals = record { scale = scale; terms = rounded_terms shift scale cuts duals }
