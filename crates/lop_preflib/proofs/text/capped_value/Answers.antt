use Rattle.std.proofs.Common.{◌≡◌, ◌+◌, ◌-◌, ◌*◌, [], List, ℕ, drop, get_or, min, refl, sym, ◌∙◌, ap, arith}
use Rattle.std.proofs.lemmas.List.{drop_all}
use Rattle.lop_desk.specs.Number.{all_digits, value_from}
use Rattle.lop_desk.proofs.Digits.{value_step, digits_step}
use Rattle.lop_preflib.proofs.DigitLemmas.{value_from-capped, digit_more}
use Rattle.lop_preflib.proofs.text.capped_value.Goals as goal

pub loop-digit-preserved : goal.loop-digit-preserved
loop-digit-preserved c =
    let word = c.args.word.now in
    let i = c.loop-digit.digit-index in
    let digit = get_or word i 0 in
    let next : c.min-value.result ≡ min (10 * c.loop-digit.value + (digit - 48)) 1000000000000000001 = omega (arith, c.min-value.ensures, c.from.ensures) in
    record {
      small = omega (arith, c.min-value.ensures);
      digits = sym (digits_step word i digit c.loop-digit-test.true refl ∙ digit_more digit (all_digits (drop (i + 1) word)) c.if-digit-lt48.false c.if-digit-gt57.false) ∙ c.loop-digit.invariant.digits;
      value =
          ap (λ v. min (value_from v (drop (i + 1) word)) 1000000000000000001) next
          ∙ value_from-capped 1000000000000000001 (10 * c.loop-digit.value + (digit - 48)) (drop (i + 1) word)
          ∙ ap (λ v. min v 1000000000000000001) (sym (value_step c.loop-digit.value word i digit c.loop-digit-test.true refl))
          ∙ c.loop-digit.invariant.value;
    }

pub returns : goal.returns
returns c =
    let word = c.args.word.now in
    let i = c.loop-digit.digit-index in
    let none : drop i word ≡ [] = drop_all i word c.loop-digit-test.false in (
      sym c.loop-digit.invariant.digits ∙ ap all_digits none,
      omega (arith, c.loop-digit.invariant.small, c.loop-digit.invariant.value, ap (λ (l : List ℕ). value_from c.loop-digit.value l) none),
    )
