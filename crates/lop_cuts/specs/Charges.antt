-- What terms charge at arcs, in a table of n rows of n numbers.
use Rattle.std.specs.Prelude.{◌≡◌, ◌<◌, ◌*◌, ℕ, List, length, count_by}
use Rattle.lop_model.specs.declared.pair.Pair.{Pair}
use Rattle.lop_model.specs.Cells.{cell}
use Rattle.lop_cuts.specs.Arcs.{arc, same_arc}
use Rattle.lop_cuts.specs.Lagrangian.{Term, charge}

-- how often the arc from a to b stands in a list
abbrev pub arc_count : ℕ → ℕ → List Pair → ℕ
arc_count a b arcs = count_by (λ x. same_arc x (arc a b)) arcs

-- the table has the charge of each arc
pub record HasCharges (n : ℕ) (terms : List Term) (t : List ℕ) : Type 0 where
  pub square : length t ≡ n * n
  pub each : (a b : ℕ) → a < n → b < n → cell t n a b ≡ charge terms a b
