use Rattle.std.proofs.Common.{◌-◌, length, arith, length-drop}
use Rattle.std.proofs.lemmas.List.{take_rest}
use Rattle.lop_desk.proofs.NextLine.{none_up_to, lf_behind}
use Rattle.lop_desk.proofs.line.find_lf.Goals as goal

pub returns-in-None : goal.returns-in-None
returns-in-None c =
    let bytes = c.args.bytes.now in
    let before = rw take_rest at c.in-None.ensures in
    λ k below. none_up_to bytes c.args.from (length bytes - c.args.from) c.requires.none (λ j low high. before j low (omega (arith, high, length-drop c.args.from bytes))) k (omega (arith, below))

pub returns-in-Some : goal.returns-in-Some
returns-in-Some c =
    let bytes = c.args.bytes.now in
    let found = rw take_rest at c.in-Some.ensures in (
      none_up_to bytes c.args.from c.in-Some.place c.requires.none found.0.before,
      omega (arith, found.0.high, length-drop c.args.from bytes),
      lf_behind bytes c.args.from c.in-Some.place found.1,
    )
