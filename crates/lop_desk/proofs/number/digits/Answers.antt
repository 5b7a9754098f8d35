use Rattle.std.proofs.Common.{◌+◌, ◌-◌, ◌*◌, drop, get_or, refl, arith}
use Rattle.lop_desk.proofs.Digits.{value_grows, value_step}
use Rattle.lop_desk.proofs.number.digits.Goals as goal

pub returns-in-None : goal.returns-in-None
returns-in-None c = λ digits.
    let word = c.args.word.now in
    let i = c.loop-digit.digit-index in
    let value = c.loop-digit.value in
    let digit = get_or word i 0 in
    omega (
      arith,
      value_step value word i digit c.loop-digit-test.true refl,
      value_grows (10 * value + (digit - 48)) (drop (i + 1) word),
      c.loop-digit.invariant.value,
      c.in-None.ensures,
    )
