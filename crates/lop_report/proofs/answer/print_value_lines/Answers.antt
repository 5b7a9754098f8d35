use Rattle.std.proofs.Common.{rules, FitsSigned}
use Rattle.std.specs.Prelude.{codes, pos, List, ℕ}
use Rattle.std.specs.Int.{w128}
use Rattle.std.proofs.lemmas.Int.{to_z-of_z}
use Rattle.lop_report.specs.Lines.{number_line, decimal_line, linearity_line}
use Rattle.lop_report.proofs.Printed.{cut_in_first, cut_in_second, cut_in_third, four_printed}
use Rattle.lop_report.proofs.answer.print_value_lines.Goals as goal

pub returns-in_err-print_count-clause-effect : goal.returns-in_err-print_count-clause-effect
returns-in_err-print_count-clause-effect g c =
    let objects : List ℕ = number_line (codes "objects ") (pos c.args.n) in
    let value : List ℕ = decimal_line (codes "value ") c.args.value c.args.decimals in
    let sum : List ℕ = decimal_line (codes "total ") c.args.total c.args.decimals in
    let linearity : List ℕ = linearity_line c.args.value c.args.total in
    cut_in_first objects value sum linearity _ _ _ _ c.from_residual.ensures.1 c.in_err-print_count.ensures.effect

pub returns-in_err-print_decimal-clause-effect : goal.returns-in_err-print_decimal-clause-effect
returns-in_err-print_decimal-clause-effect g c =
    let fits : FitsSigned w128 c.args.value = search rules in
    let objects : List ℕ = number_line (codes "objects ") (pos c.args.n) in
    let value : List ℕ = decimal_line (codes "value ") c.args.value c.args.decimals in
    let sum : List ℕ = decimal_line (codes "total ") c.args.total c.args.decimals in
    let linearity : List ℕ = linearity_line c.args.value c.args.total in
    cut_in_second objects value sum linearity _ _ _ _ _ c.in_ok-print_count.ensures.effect c.from_residual-in_err-print_decimal.ensures.1 (simp to_z-of_z at c.in_err-print_decimal.ensures.effect)

pub returns-in_err-print_decimal-2-clause-effect : goal.returns-in_err-print_decimal-2-clause-effect
returns-in_err-print_decimal-2-clause-effect g c =
    let fits : FitsSigned w128 c.args.value = search rules in
    let other_fits : FitsSigned w128 c.args.total = search rules in
    let objects : List ℕ = number_line (codes "objects ") (pos c.args.n) in
    let value : List ℕ = decimal_line (codes "value ") c.args.value c.args.decimals in
    let sum : List ℕ = decimal_line (codes "total ") c.args.total c.args.decimals in
    let linearity : List ℕ = linearity_line c.args.value c.args.total in
    cut_in_third objects value sum linearity _ _ _ _ _ _ c.in_ok-print_count.ensures.effect (simp to_z-of_z at c.in_ok-print_decimal.ensures.effect) c.from_residual-in_err-print_decimal-2.ensures.1
    (simp to_z-of_z at c.in_err-print_decimal-2.ensures.effect)

pub returns-clause-effect : goal.returns-clause-effect
returns-clause-effect g c =
    let fits : FitsSigned w128 c.args.value = search rules in
    let other_fits : FitsSigned w128 c.args.total = search rules in
    let objects : List ℕ = number_line (codes "objects ") (pos c.args.n) in
    let value : List ℕ = decimal_line (codes "value ") c.args.value c.args.decimals in
    let sum : List ℕ = decimal_line (codes "total ") c.args.total c.args.decimals in
    let linearity : List ℕ = linearity_line c.args.value c.args.total in
    four_printed objects value sum linearity _ _ _ _ _ _ c.in_ok-print_count.ensures.effect (simp to_z-of_z at c.in_ok-print_decimal.ensures.effect)
    (simp to_z-of_z at c.in_ok-print_decimal-2.ensures.effect) (simp to_z-of_z at c.print_linearity.ensures.effect)
