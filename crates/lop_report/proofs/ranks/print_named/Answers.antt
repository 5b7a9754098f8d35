use Rattle.std.specs.Prelude.{codes, ◌++◌}
use Rattle.lop_desk.proofs.Printing.{prints_cut, prints_then}
use Rattle.lop_report.proofs.ranks.print_named.Goals as goal

pub returns-in_err-print_all-clause-effect : goal.returns-in_err-print_all-clause-effect
returns-in_err-print_all-clause-effect g c =
    prints_cut _ _ c.args.words.now (c.args.name.now ++ codes "\n") _ _ c.from_residual.ensures.1 c.in_err-print_all.ensures.effect

pub returns-in_err-print_all-2-clause-effect : goal.returns-in_err-print_all-2-clause-effect
returns-in_err-print_all-2-clause-effect g c =
    prints_then _ _ _ c.args.words.now (c.args.name.now ++ codes "\n") _ c.in_ok-print_all.ensures.effect
    (prints_cut _ _ c.args.name.now (codes "\n") _ _ c.from_residual-in_err-print_all-2.ensures.1 c.in_err-print_all-2.ensures.effect)

pub returns-clause-effect : goal.returns-clause-effect
returns-clause-effect g c =
    prints_then _ _ _ c.args.words.now (c.args.name.now ++ codes "\n") _ c.in_ok-print_all.ensures.effect
    (prints_then _ _ _ c.args.name.now (codes "\n") _ c.in_ok-print_all-2.ensures.effect c.print_all-3.ensures.effect)
