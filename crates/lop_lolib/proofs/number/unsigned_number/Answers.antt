use Rattle.std.proofs.Common.{◌≡◌, ◌∙◌, ℕ, ◌+◌, ◌<◌, ◌&&◌, Bool, List, ◌++◌, min, length, take, drop, true, sym, ap, arith}
use Rattle.std.specs.List.{prefix_len}
use Rattle.std.proofs.lemmas.Bool.{and_from}
use Rattle.std.proofs.lemmas.List.{take_rest, take_all, length-drop, length-take, length-append}
use Rattle.lop_desk.specs.Number.{is_digit, all_digits, value_from, is_digit_word}
use Rattle.lop_lolib.specs.declared.number.TheConstants.{MAX_NUMBER}
use Rattle.lop_lolib.specs.Number.{without_point}
use Rattle.lop_lolib.proofs.NumberLemmas.{plain-digits, broken, parted, front-digits, all_digits-append, all_digits-broken, all_digits-run, digit_word-is, digit_word-broken, digit_word-empty, value_from-cut, value_from-append}
use Rattle.lop_lolib.proofs.number.unsigned_number.Goals as goal
use Rattle.lop_lolib.proofs.number.unsigned_number.Goals.{then-fraction-rest-via-then-fraction-rest, then-fraction-rest-via-else-fraction-rest+then-whole-fraction-eq0}

pub returns-then-whole-bytes : goal.returns-then-whole-bytes
returns-then-whole-bytes c =
    let bytes = c.args.bytes.now in
    let whole = c.digits_in-whole in
    let plain = plain-digits bytes whole.result.len whole.ensures.len c.if-whole-bytes.true in (
      ap is_digit_word plain.0 ∙ digit_word-is bytes (omega arith) plain.2,
      whole.ensures.value ∙ ap (λ (l : List ℕ). min (MAX_NUMBER + 1) (value_from 0 l)) (take_all whole.result.len bytes (omega arith) ∙ sym plain.0),
      sym plain.1,
    )

pub returns-then-bytes-whole-ne46 : goal.returns-then-bytes-whole-ne46
returns-then-bytes-whole-ne46 c =
    digit_word-broken (without_point c.args.bytes.now) (broken c.args.bytes.now c.digits_in-whole.result.len c.digits_in-whole.ensures.len (omega arith) c.if-bytes-whole-ne46.true)

pub returns-then-fraction-rest : goal.returns-then-fraction-rest
returns-then-fraction-rest c =
    let bytes = c.args.bytes.now in
    let len = c.digits_in-whole.result.len in
    let more : len < length bytes = omega arith in
    let parts = parted bytes len c.digits_in-whole.ensures.len more c.if-bytes-whole-ne46.false in
    let rest = drop (len + 1) bytes in
    let whole_rest = take_rest bytes (len + 1) in
    let run : c.digits_in-fraction.result.len ≡ prefix_len is_digit rest = c.digits_in-fraction.ensures.len ∙ ap (prefix_len is_digit) whole_rest in
    ap is_digit_word parts.0
    ∙ elim c.then-fraction-rest.branch [
      | then-fraction-rest-via-then-fraction-rest w ↦
          digit_word-broken (take len bytes ++ rest) (all_digits-append (take len bytes) rest ∙ ap (λ (t : Bool). t && all_digits rest) (front-digits bytes len c.digits_in-whole.ensures.len) ∙ all_digits-broken rest (omega (arith, run, w.if-fraction-rest.true, ap length whole_rest, length-drop (len + 1) bytes)))
      | then-fraction-rest-via-else-fraction-rest+then-whole-fraction-eq0 w ↦
          digit_word-empty (take len bytes ++ rest) (omega (arith, length-append (take len bytes) rest, length-take len bytes, w.if-fraction-rest.false, w.if-whole-fraction-eq0.true, ap length whole_rest, length-drop (len + 1) bytes))
    ]

pub returns : goal.returns
returns c =
    let bytes = c.args.bytes.now in
    let whole = c.digits_in-whole in
    let fraction = c.digits_in-fraction in
    let len = whole.result.len in
    let more : len < length bytes = omega arith in
    let parts = parted bytes len whole.ensures.len more c.if-bytes-whole-ne46.false in
    let rest = drop (len + 1) bytes in
    let front = take len bytes in
    let whole_rest = take_rest bytes (len + 1) in
    let run : fraction.result.len ≡ prefix_len is_digit rest = fraction.ensures.len ∙ ap (prefix_len is_digit) whole_rest in
    let all : fraction.result.len ≡ length rest = omega (arith, fraction.ensures.within, c.if-fraction-rest.false, ap length whole_rest, length-drop (len + 1) bytes) in
    let digits : all_digits (front ++ rest) ≡ true = all_digits-append front rest ∙ and_from _ _ (front-digits bytes len whole.ensures.len) (all_digits-run rest (sym run ∙ all)) in
    let some : 0 < length (front ++ rest) = omega (arith, length-append front rest, length-take len bytes, all) in
    let cut : min (MAX_NUMBER + 1) whole.result.value ≡ min (MAX_NUMBER + 1) (value_from 0 front) = omega (arith, whole.ensures.value) in (
      ap is_digit_word parts.0 ∙ digit_word-is (front ++ rest) some digits,
      fraction.ensures.value
          ∙ ap (λ (l : List ℕ). min (MAX_NUMBER + 1) (value_from whole.result.value (take fraction.result.len l))) whole_rest
          ∙ ap (λ (l : List ℕ). min (MAX_NUMBER + 1) (value_from whole.result.value l)) (take_all fraction.result.len rest (omega (arith, all)))
          ∙ value_from-cut (MAX_NUMBER + 1) whole.result.value (value_from 0 front) rest cut
          ∙ ap (λ (v : ℕ). min (MAX_NUMBER + 1) v) (sym (value_from-append 0 front rest))
          ∙ ap (λ (l : List ℕ). min (MAX_NUMBER + 1) (value_from 0 l)) (sym parts.0),
      all ∙ sym parts.1,
    )
