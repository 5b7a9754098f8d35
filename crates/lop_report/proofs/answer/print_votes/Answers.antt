use Rattle.std.proofs.Common.{rules, FitsSigned, to_z, of_z, ◌≡◌, ◌∙◌}
use Rattle.std.specs.Prelude.{codes, pos, List, ℕ}
use Rattle.std.specs.Int.{w128}
use Rattle.std.proofs.lemmas.Int.{to_z-of_z}
use Rattle.lop_desk.proofs.Printing.{prints_cut, prints_then}
use Rattle.lop_preflib.specs.Profile.{votes}
use Rattle.lop_report.specs.Figures.{disagreements}
use Rattle.lop_report.specs.Lines.{number_line}
use Rattle.lop_report.proofs.answer.print_votes.Goals as goal

pub returns-in_err-print_count-clause-effect : goal.returns-in_err-print_count-clause-effect
returns-in_err-print_count-clause-effect g c =
    let first : List ℕ = number_line (codes "voters ") (pos (votes c.args.profile.now.orders)) in
    let rest : List ℕ = number_line (codes "disagreements ") (disagreements c.args.value c.args.total) in
    prints_cut _ _ first rest _ _ c.from_residual.ensures.1 (rw c.voters.ensures at c.in_err-print_count.ensures.effect)

pub returns-clause-effect : goal.returns-clause-effect
returns-clause-effect g c =
    let fits : FitsSigned w128 c.disagreements.result = search rules in
    let first : List ℕ = number_line (codes "voters ") (pos (votes c.args.profile.now.orders)) in
    let rest : List ℕ = number_line (codes "disagreements ") (disagreements c.args.value c.args.total) in
    let value_fits : FitsSigned w128 c.args.value = search rules in
    let total_fits : FitsSigned w128 c.args.total = search rules in
    let same : to_z w128 (of_z w128 c.disagreements.result) ≡ disagreements c.args.value c.args.total = to_z-of_z w128 c.disagreements.result fits ∙ (simp to_z-of_z at c.disagreements.ensures) in
    prints_then _ _ _ first rest _ (rw c.voters.ensures at c.in_ok-print_count.ensures.effect) (rw same at c.print_number.ensures.effect)
