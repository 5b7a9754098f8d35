use Rattle.std.proofs.Common.{rules, FitsSigned}
use Rattle.std.specs.Prelude.{codes, pos, List, ℕ}
use Rattle.std.specs.Int.{w128}
use Rattle.std.proofs.lemmas.Int.{to_z-of_z}
use Rattle.lop_model.specs.Matrix.{total}
use Rattle.lop_report.specs.Lines.{number_line, decimal_line}
use Rattle.lop_report.specs.AnswerText.{bound_lines}
use Rattle.lop_report.proofs.Printed.{cut_in_first, cut_in_second, cut_in_third, four_printed}
use Rattle.lop_report.proofs.answer.print_generated.Goals as goal

pub returns-in_err-print_count-clause-effect : goal.returns-in_err-print_count-clause-effect
returns-in_err-print_count-clause-effect g c =
    let seed : List ℕ = number_line (codes "seed ") (pos c.args.seed) in
    let lines : List ℕ = bound_lines c.args.weights.now.size c.args.answer.now.decimals c.args.answer.now.value c.args.answer.now.bound in
    let nodes : List ℕ = number_line (codes "nodes ") (pos c.args.answer.now.nodes) in
    let sum : List ℕ = decimal_line (codes "total ") (total c.args.weights.now) c.args.answer.now.decimals in
    cut_in_first seed lines nodes sum _ _ _ _ c.from_residual.ensures.1 c.in_err-print_count.ensures.effect

pub returns-in_err-print_bound_lines-clause-effect : goal.returns-in_err-print_bound_lines-clause-effect
returns-in_err-print_bound_lines-clause-effect g c =
    let seed : List ℕ = number_line (codes "seed ") (pos c.args.seed) in
    let lines : List ℕ = bound_lines c.args.weights.now.size c.args.answer.now.decimals c.args.answer.now.value c.args.answer.now.bound in
    let nodes : List ℕ = number_line (codes "nodes ") (pos c.args.answer.now.nodes) in
    let sum : List ℕ = decimal_line (codes "total ") (total c.args.weights.now) c.args.answer.now.decimals in
    cut_in_second seed lines nodes sum _ _ _ _ _ c.in_ok-print_count.ensures.effect c.from_residual-in_err-print_bound_lines.ensures.1 (rw c.n.ensures.size at c.in_err-print_bound_lines.ensures.effect)

pub returns-in_err-print_count-2-clause-effect : goal.returns-in_err-print_count-2-clause-effect
returns-in_err-print_count-2-clause-effect g c =
    let seed : List ℕ = number_line (codes "seed ") (pos c.args.seed) in
    let lines : List ℕ = bound_lines c.args.weights.now.size c.args.answer.now.decimals c.args.answer.now.value c.args.answer.now.bound in
    let nodes : List ℕ = number_line (codes "nodes ") (pos c.args.answer.now.nodes) in
    let sum : List ℕ = decimal_line (codes "total ") (total c.args.weights.now) c.args.answer.now.decimals in
    cut_in_third seed lines nodes sum _ _ _ _ _ _ c.in_ok-print_count.ensures.effect (rw c.n.ensures.size at c.in_ok-print_bound_lines.ensures.effect) c.from_residual-in_err-print_count-2.ensures.1 c.in_err-print_count-2.ensures.effect

pub returns-clause-effect : goal.returns-clause-effect
returns-clause-effect g c =
    let other_fits : FitsSigned w128 c.total.result = search rules in
    let seed : List ℕ = number_line (codes "seed ") (pos c.args.seed) in
    let lines : List ℕ = bound_lines c.args.weights.now.size c.args.answer.now.decimals c.args.answer.now.value c.args.answer.now.bound in
    let nodes : List ℕ = number_line (codes "nodes ") (pos c.args.answer.now.nodes) in
    let sum : List ℕ = decimal_line (codes "total ") (total c.args.weights.now) c.args.answer.now.decimals in
    four_printed seed lines nodes sum _ _ _ _ _ _ c.in_ok-print_count.ensures.effect (rw c.n.ensures.size at c.in_ok-print_bound_lines.ensures.effect) c.in_ok-print_count-2.ensures.effect
    (rw c.total.ensures at (simp to_z-of_z at c.print_decimal.ensures.effect))
