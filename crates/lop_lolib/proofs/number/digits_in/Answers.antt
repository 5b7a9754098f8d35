use Rattle.std.proofs.Common.{◌≡◌, ℕ, false, true, get_or, length, sym, subst, inl, inr, arith}
use Rattle.std.proofs.lemmas.Bool.{cases_lt}
use Rattle.std.proofs.lemmas.List.Sums.{prefix_len_is}
use Rattle.lop_desk.specs.Number.{is_digit}
use Rattle.lop_lolib.proofs.NumberLemmas.{digit-in, digit-low, digit-high, value_from-more}
use Rattle.lop_lolib.proofs.number.digits_in.Goals as goal
use Rattle.lop_lolib.proofs.number.digits_in.Goals.{then-byte-lt48-via-then-byte-lt48, then-byte-lt48-via-else-byte-lt48+then-byte-gt57}

pub returns-then-byte-lt48-clause-len : goal.returns-then-byte-lt48-clause-len
returns-then-byte-lt48-clause-len c =
    let bytes = c.args.bytes.now in
    let i = c.loop-i.i in
    let no : is_digit (get_or bytes i 0) ≡ false = elim c.then-byte-lt48.branch [
      | then-byte-lt48-via-then-byte-lt48 w ↦ digit-low (get_or bytes i 0) w.if-byte-lt48.true
      | then-byte-lt48-via-else-byte-lt48+then-byte-gt57 w ↦ digit-high (get_or bytes i 0) w.if-byte-gt57.true
    ] in
    sym (prefix_len_is is_digit bytes i 0 (omega arith) c.loop-i.invariant.digits (λ _. no))

pub returns-clause-len : goal.returns-clause-len
returns-clause-len c =
    let bytes = c.args.bytes.now in
    sym (prefix_len_is is_digit bytes (length bytes) 0 (omega arith) (λ k within. c.loop-i.invariant.digits k (omega arith)) (λ more. absurd (omega arith)))

pub loop-i-preserved : goal.loop-i-preserved
loop-i-preserved c =
    let bytes = c.args.bytes.now in
    let i = c.loop-i.i in
    let byte = get_or bytes i 0 in
    let here : is_digit byte ≡ true = digit-in byte (omega arith) (omega arith) in
    let step = value_from-more c.args.before bytes i (omega arith) in
    record {
      digits = λ k below. elim (cases_lt k i) [ inl before ↦ c.loop-i.invariant.digits k before | inr last ↦ let P : ℕ → Type 0 = λ j. is_digit (get_or bytes j 0) ≡ true in subst P (omega arith) here ];
      value = omega (arith, step, c.loop-i.invariant.value, c.min-value.ensures, c.from.ensures);
    }
