-- What a value is of the total, and what is left of the total.
use Rattle.std.specs.Prelude.{◌*◌, ◌/◌, ℤ, pos, negsuc, zero, suc, ◌-ℤ◌}
use Rattle.lop_report.specs.declared.degree.Linearity.{Linearity}
use Rattle.lop_report.specs.declared.degree.Linearity.TheVariants.{None, Parts}

-- the degree of linearity in ten-thousandths, cut: a value's part of a positive total
abbrev pub linearity_parts : ℤ → ℤ → Linearity
linearity_parts (pos value) (pos (suc t)) = Parts (10000 * value / suc t)
linearity_parts (pos value) (pos zero) = None
linearity_parts (pos value) (negsuc t) = None
linearity_parts (negsuc v) total = None

-- what the entries against an order sum to
abbrev pub disagreements : ℤ → ℤ → ℤ
disagreements value total = total -ℤ value
