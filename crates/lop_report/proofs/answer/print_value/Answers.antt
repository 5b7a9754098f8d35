use Rattle.std.proofs.Common.{List, ℕ, rules, FitsSigned}
use Rattle.std.specs.Int.{w128}
use Rattle.std.specs.Option.{option_copied}
use Rattle.std.proofs.lemmas.Int.{to_z-of_z}
use Rattle.lop_model.specs.Matrix.{total}
use Rattle.lop_desk.proofs.Printing.{prints_cut, prints_then}
use Rattle.lop_report.specs.AnswerText.{value_lines, voter_lines}
use Rattle.lop_report.proofs.TotalLemmas.{total_within, below_limit}
use Rattle.lop_report.proofs.answer.print_value.Goals as goal

pub print_value_lines-requires-clause-value : goal.print_value_lines-requires-clause-value
print_value_lines-requires-clause-value g c =
    let fits : FitsSigned w128 c.args.value = search rules in
    rw (to_z-of_z w128 c.args.value fits) (below_limit c.args.value c.requires.value)

pub print_voter_lines-requires-clause-total : goal.print_voter_lines-requires-clause-total
print_voter_lines-requires-clause-total g c =
    let fits : FitsSigned w128 c.total-total.result = search rules in
    rw (to_z-of_z w128 c.total-total.result fits, c.total-total.ensures) (total_within c.args.weights.now c.n.ensures.weights)

pub returns-in_err-print_value_lines-clause-effect : goal.returns-in_err-print_value_lines-clause-effect
returns-in_err-print_value_lines-clause-effect g c =
    let fits : FitsSigned w128 c.total-total.result = search rules in
    let value_fits : FitsSigned w128 c.args.value = search rules in
    let first : List ℕ = value_lines c.args.weights.now.size c.args.decimals c.args.value (total c.args.weights.now) in
    let rest : List ℕ = voter_lines (option_copied c.args.profile) c.args.value (total c.args.weights.now) in
    prints_cut _ _ first rest _ _ c.from_residual.ensures.1 (rw (c.total-total.ensures, c.n.ensures.size) at (simp to_z-of_z at c.in_err-print_value_lines.ensures.effect))

pub returns-clause-effect : goal.returns-clause-effect
returns-clause-effect g c =
    let fits : FitsSigned w128 c.total-total.result = search rules in
    let value_fits : FitsSigned w128 c.args.value = search rules in
    let first : List ℕ = value_lines c.args.weights.now.size c.args.decimals c.args.value (total c.args.weights.now) in
    let rest : List ℕ = voter_lines (option_copied c.args.profile) c.args.value (total c.args.weights.now) in
    prints_then _ _ _ first rest _ (rw (c.total-total.ensures, c.n.ensures.size) at (simp to_z-of_z at c.in_ok-print_value_lines.ensures.effect)) (rw c.total-total.ensures at (simp to_z-of_z at c.print_voter_lines.ensures.effect))
