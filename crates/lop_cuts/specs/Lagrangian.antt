-- The Lagrangian bound: the weights less the multipliers of cuts, over closed fixings.
use Rattle.std.specs.Prelude.{ℕ, ◌*◌, List, sum_by, ℤ, pos, ◌+ℤ◌, ◌-ℤ◌, ◌*ℤ◌, ◌<ℤ◌, if◌then◌else◌}
use Rattle.lop_model.specs.declared.pair.Pair.{Pair}
use Rattle.lop_model.specs.Sums.{pair_sum}
use Rattle.lop_model.specs.Matrix.{Matrix, entry}
use Rattle.lop_model.specs.Fixings.{has_pair}
use Rattle.lop_model.specs.Bound.{pair_value}
use Rattle.lop_cuts.specs.declared.kind.CutKind.{CutKind}
use Rattle.lop_cuts.specs.Kind.{arcs_of, right_side_of}

-- a cut, and the whole number by which its inequality is multiplied
pub record Term : Type 0 where
  pub cut : CutKind
  pub multiplier : ℕ

-- the multipliers of the cuts that have the arc from a to b, added up
abbrev pub charge : List Term → ℕ → ℕ → ℕ
charge terms a b = sum_by (λ t. if has_pair (arcs_of t.cut) a b then t.multiplier else 0) terms

-- the multiplied right sides, added up
abbrev pub right_sides : List Term → ℕ
right_sides terms = sum_by (λ t. t.multiplier * right_side_of t.cut) terms

-- the scale times the entry, less the multipliers of the cuts that have the arc
abbrev pub reduced_entry : Matrix → ℕ → List Term → ℕ → ℕ → ℤ
reduced_entry C scale terms a b = pos scale *ℤ entry C a b -ℤ pos (charge terms a b)

-- the multiplied right sides, and what all pairs of objects give by their reduced entries under closed pairs
abbrev pub lagrangian_value : Matrix → List Pair → ℕ → List Term → ℤ
lagrangian_value C G scale terms =
    pos (right_sides terms) +ℤ pair_sum C.size (pair_value G (reduced_entry C scale terms))

-- the scale and the terms certify that no order that extends the closed pairs weighs more than b
abbrev pub Certifies : Matrix → List Pair → ℕ → List Term → ℤ → Type 0
Certifies C G scale terms b = lagrangian_value C G scale terms <ℤ (pos scale *ℤ (b +ℤ pos 1))
