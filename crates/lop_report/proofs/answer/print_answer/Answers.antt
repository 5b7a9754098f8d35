use Rattle.std.proofs.Common.{List, ℕ, rules, FitsSigned}
use Rattle.std.specs.Int.{w128}
use Rattle.std.specs.Option.{option_copied}
use Rattle.std.proofs.lemmas.Int.{to_z-of_z}
use Rattle.lop_model.specs.Matrix.{total}
use Rattle.lop_report.specs.AnswerText.{order_lines, figure_lines, voter_lines, ranking}
use Rattle.lop_report.proofs.Printed.{cut_in_first, cut_in_second, cut_in_third, four_printed}
use Rattle.lop_report.proofs.TotalLemmas.{total_within, below_limit}
use Rattle.lop_report.proofs.answer.print_answer.Goals as goal

pub print_figure_lines-requires-clause-value : goal.print_figure_lines-requires-clause-value
print_figure_lines-requires-clause-value g c = below_limit c.args.answer.now.value c.requires.value

pub print_voter_lines-requires-clause-total : goal.print_voter_lines-requires-clause-total
print_voter_lines-requires-clause-total g c =
    let fits : FitsSigned w128 c.total-total.result = search rules in
    rw (to_z-of_z w128 c.total-total.result fits, c.total-total.ensures) (total_within c.args.weights.now c.n-2.ensures.weights)

pub returns-in_err-print_order_lines-clause-effect : goal.returns-in_err-print_order_lines-clause-effect
returns-in_err-print_order_lines-clause-effect g c =
    let C = c.args.weights.now in
    let order : List ℕ = order_lines c.args.weights.now.size c.args.order.now c.args.answer.now.decimals c.args.answer.now.value c.args.answer.now.bound in
    let figures : List ℕ = figure_lines c.args.answer.now.decimals c.args.answer.now.value c.args.answer.now.bound c.args.answer.now.nodes (total c.args.weights.now) in
    let votes : List ℕ = voter_lines (option_copied c.args.profile) c.args.answer.now.value (total c.args.weights.now) in
    let ranks : List ℕ = ranking (option_copied c.args.profile) c.args.order.now in
    cut_in_first order figures votes ranks _ _ _ _ c.from_residual.ensures.1 (rw c.requires.same_n at c.in_err-print_order_lines.ensures.effect)

pub returns-in_err-print_figure_lines-clause-effect : goal.returns-in_err-print_figure_lines-clause-effect
returns-in_err-print_figure_lines-clause-effect g c =
    let fits : FitsSigned w128 c.total-total.result = search rules in
    let order : List ℕ = order_lines c.args.weights.now.size c.args.order.now c.args.answer.now.decimals c.args.answer.now.value c.args.answer.now.bound in
    let figures : List ℕ = figure_lines c.args.answer.now.decimals c.args.answer.now.value c.args.answer.now.bound c.args.answer.now.nodes (total c.args.weights.now) in
    let votes : List ℕ = voter_lines (option_copied c.args.profile) c.args.answer.now.value (total c.args.weights.now) in
    let ranks : List ℕ = ranking (option_copied c.args.profile) c.args.order.now in
    cut_in_second order figures votes ranks _ _ _ _ _ (rw c.requires.same_n at c.in_ok-print_order_lines.ensures.effect) c.from_residual-in_err-print_figure_lines.ensures.1
    (rw (to_z-of_z w128 c.total-total.result fits, c.total-total.ensures) at c.in_err-print_figure_lines.ensures.effect)

pub returns-in_err-print_voter_lines-clause-effect : goal.returns-in_err-print_voter_lines-clause-effect
returns-in_err-print_voter_lines-clause-effect g c =
    let fits : FitsSigned w128 c.total-total.result = search rules in
    let value_fits : FitsSigned w128 c.args.answer.now.value = search rules in
    let order : List ℕ = order_lines c.args.weights.now.size c.args.order.now c.args.answer.now.decimals c.args.answer.now.value c.args.answer.now.bound in
    let figures : List ℕ = figure_lines c.args.answer.now.decimals c.args.answer.now.value c.args.answer.now.bound c.args.answer.now.nodes (total c.args.weights.now) in
    let votes : List ℕ = voter_lines (option_copied c.args.profile) c.args.answer.now.value (total c.args.weights.now) in
    let ranks : List ℕ = ranking (option_copied c.args.profile) c.args.order.now in
    cut_in_third order figures votes ranks _ _ _ _ _ _ (rw c.requires.same_n at c.in_ok-print_order_lines.ensures.effect)
    (rw (to_z-of_z w128 c.total-total.result fits, c.total-total.ensures) at c.in_ok-print_figure_lines.ensures.effect)
    c.from_residual-in_err-print_voter_lines.ensures.1
    (rw c.total-total.ensures at (simp to_z-of_z at c.in_err-print_voter_lines.ensures.effect))

pub returns-clause-effect : goal.returns-clause-effect
returns-clause-effect g c =
    let fits : FitsSigned w128 c.total-total.result = search rules in
    let value_fits : FitsSigned w128 c.args.answer.now.value = search rules in
    let order : List ℕ = order_lines c.args.weights.now.size c.args.order.now c.args.answer.now.decimals c.args.answer.now.value c.args.answer.now.bound in
    let figures : List ℕ = figure_lines c.args.answer.now.decimals c.args.answer.now.value c.args.answer.now.bound c.args.answer.now.nodes (total c.args.weights.now) in
    let votes : List ℕ = voter_lines (option_copied c.args.profile) c.args.answer.now.value (total c.args.weights.now) in
    let ranks : List ℕ = ranking (option_copied c.args.profile) c.args.order.now in
    four_printed order figures votes ranks _ _ _ _ _ _ (rw c.requires.same_n at c.in_ok-print_order_lines.ensures.effect)
    (rw (to_z-of_z w128 c.total-total.result fits, c.total-total.ensures) at c.in_ok-print_figure_lines.ensures.effect)
    (rw c.total-total.ensures at (simp to_z-of_z at c.in_ok-print_voter_lines.ensures.effect))
    c.print_ranking.ensures.effect
