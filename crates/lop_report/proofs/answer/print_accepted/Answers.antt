use Rattle.std.proofs.Common.{List, ℕ, rules, FitsSigned}
use Rattle.std.specs.Prelude.{codes}
use Rattle.std.specs.Int.{w128}
use Rattle.std.proofs.lemmas.Int.{to_z-of_z}
use Rattle.lop_report.specs.Lines.{decimal_line, check_status_line}
use Rattle.lop_report.proofs.Printed.{cut_in_first, cut_in_second, cut_in_third, four_printed}
use Rattle.lop_report.proofs.answer.print_accepted.Goals as goal

pub returns-in_err-print_all-clause-effect : goal.returns-in_err-print_all-clause-effect
returns-in_err-print_all-clause-effect g c =
    let first : List ℕ = codes "accepted\n" in
    let value : List ℕ = decimal_line (codes "value ") c.args.value c.args.decimals in
    let bound : List ℕ = decimal_line (codes "bound ") c.args.bound c.args.decimals in
    let status : List ℕ = check_status_line c.args.value c.args.bound in
    cut_in_first first value bound status _ _ _ _ c.from_residual.ensures.1 c.in_err-print_all.ensures.effect

pub returns-in_err-print_decimal-clause-effect : goal.returns-in_err-print_decimal-clause-effect
returns-in_err-print_decimal-clause-effect g c =
    let value_fits : FitsSigned w128 c.args.value = search rules in
    let first : List ℕ = codes "accepted\n" in
    let value : List ℕ = decimal_line (codes "value ") c.args.value c.args.decimals in
    let bound : List ℕ = decimal_line (codes "bound ") c.args.bound c.args.decimals in
    let status : List ℕ = check_status_line c.args.value c.args.bound in
    cut_in_second first value bound status _ _ _ _ _ c.in_ok-print_all.ensures.effect c.from_residual-in_err-print_decimal.ensures.1 (simp to_z-of_z at c.in_err-print_decimal.ensures.effect)

pub returns-in_err-print_decimal-2-clause-effect : goal.returns-in_err-print_decimal-2-clause-effect
returns-in_err-print_decimal-2-clause-effect g c =
    let value_fits : FitsSigned w128 c.args.value = search rules in
    let bound_fits : FitsSigned w128 c.args.bound = search rules in
    let first : List ℕ = codes "accepted\n" in
    let value : List ℕ = decimal_line (codes "value ") c.args.value c.args.decimals in
    let bound : List ℕ = decimal_line (codes "bound ") c.args.bound c.args.decimals in
    let status : List ℕ = check_status_line c.args.value c.args.bound in
    cut_in_third first value bound status _ _ _ _ _ _ c.in_ok-print_all.ensures.effect (simp to_z-of_z at c.in_ok-print_decimal.ensures.effect) c.from_residual-in_err-print_decimal-2.ensures.1 (simp to_z-of_z at c.in_err-print_decimal-2.ensures.effect)

pub returns-clause-effect : goal.returns-clause-effect
returns-clause-effect g c =
    let value_fits : FitsSigned w128 c.args.value = search rules in
    let bound_fits : FitsSigned w128 c.args.bound = search rules in
    let first : List ℕ = codes "accepted\n" in
    let value : List ℕ = decimal_line (codes "value ") c.args.value c.args.decimals in
    let bound : List ℕ = decimal_line (codes "bound ") c.args.bound c.args.decimals in
    let status : List ℕ = check_status_line c.args.value c.args.bound in
    four_printed first value bound status _ _ _ _ _ _ c.in_ok-print_all.ensures.effect (simp to_z-of_z at c.in_ok-print_decimal.ensures.effect) (simp to_z-of_z at c.in_ok-print_decimal-2.ensures.effect) (simp to_z-of_z at c.print_check_status.ensures.effect)
