use Rattle.std.proofs.Common.{◌≡◌, ◌∙◌, ℕ, zero, suc, ℤ, pos, neg_ℤ, ◌-ℤ◌, ◌+◌, ◌^◌, ◌<◌, ◌==◌, min, Bool, true, List, get_or, to_z, of_z, w64, FitsSigned, sym, ap, arith, rules}
use Rattle.std.proofs.lemmas.Int.{ints, to_z_pos, to_z-of_z}
use Rattle.lop_desk.specs.Number.{is_digit_word, unsigned_word, digits_value}
use Rattle.lop_lolib.specs.Number.{without_point, decimal_count}
use Rattle.lop_lolib.specs.declared.number.TheConstants.{MAX_NUMBER}
use Rattle.lop_lolib.specs.declared.number.NumberWord.{NumberWord}
use Rattle.lop_lolib.specs.declared.number.NumberWord.TheVariants.{Good}
use Rattle.lop_lolib.proofs.NumberLemmas.{signed, bare, number_word-good}
use Rattle.lop_lolib.proofs.number.number_word.Goals as goal
use Rattle.lop_lolib.proofs.number.number_word.Goals.{then-signed, else-signed}

from_zero : (v : ℕ) → pos 0 -ℤ pos v ≡ neg_ℤ (pos v)
from_zero v = omega (arith, ints)

fits-neg : (v : ℕ) → v < 2 ^ 63 → FitsSigned w64 (neg_ℤ (pos v))
fits-neg zero low = search (rules, arith)
fits-neg (suc k) low = search (rules, arith)

pub returns : goal.returns
returns c =
    let word = c.args.word.now in
    let number = c.in-Some.number in
    let rest_is = c.split_sign-signed.ensures.rest in
    let minus = c.split_sign-signed.ensures.minus in
    let found = c.in-Some.ensures in
    let is : is_digit_word (bare word) ≡ true = ap (λ (l : List ℕ). is_digit_word (without_point l)) (sym rest_is) ∙ found.0 in
    let cut : number.value ≡ min (MAX_NUMBER + 1) (digits_value (bare word)) = found.1 ∙ ap (λ (l : List ℕ). min (MAX_NUMBER + 1) (digits_value (without_point l))) rest_is in
    let count : number.decimals ≡ decimal_count (unsigned_word word) = found.2 ∙ ap decimal_count rest_is in
    let v = number.value in
    let low : v < 2 ^ 63 = omega (arith, c.if-number-gt-MAX_NUMBER.false) in
    let read : to_z w64 v ≡ pos v = to_z_pos w64 v low in
    let taken : pos 0 -ℤ to_z w64 v ≡ neg_ℤ (pos v) = ap (λ (z : ℤ). pos 0 -ℤ z) read ∙ from_zero v in
    let fits : FitsSigned w64 (neg_ℤ (pos v)) = fits-neg v low in
    let back : to_z w64 (of_z w64 (pos 0 -ℤ to_z w64 v)) ≡ neg_ℤ (pos v) = ap (λ (z : ℤ). to_z w64 (of_z w64 z)) taken ∙ to_z-of_z w64 (neg_ℤ (pos v)) fits in
    let value : to_z w64 c.if-signed.result-bits ≡ signed (get_or word 0 0 == 45) v = elim c.if-signed.branch [
      | then-signed w ↦ w.result-is ∙ back ∙ ap (λ (t : Bool). signed t v) (sym w.if-signed.true ∙ minus)
      | else-signed w ↦ w.result-is ∙ read ∙ ap (λ (t : Bool). signed t v) (sym w.if-signed.false ∙ minus)
    ] in
    ap (λ (v : ℤ). let w : NumberWord = Good v number.decimals in w) value
    ∙ sym (number_word-good word is number.decimals count c.if-number.false number.value cut c.if-number-gt-MAX_NUMBER.false)
