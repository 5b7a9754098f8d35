use Rattle.std.proofs.Common.{◌≡◌, ◌-◌, false, get_or, sym, ◌∙◌, arith}
use Rattle.std.proofs.lemmas.List.Sums.{suffix_len_is}
use Rattle.lop_preflib.specs.Text.{is_blank}
use Rattle.lop_preflib.proofs.text.text_len.Goals as goal

pub returns-else-is_blank-clause-len : goal.returns-else-is_blank-clause-len
returns-else-is_blank-clause-len c =
    let bytes = c.args.bytes.now in
    let len = c.loop-len.len in
    let stop : is_blank (get_or bytes (len - 1) 0) ≡ false = sym c.is_blank.ensures ∙ c.if-is_blank.false in
    omega (arith, suffix_len_is is_blank bytes len 0 (omega arith) c.loop-len.invariant.blanks (λ _. stop))

pub returns-after-loop-len-clause-len : goal.returns-after-loop-len-clause-len
returns-after-loop-len-clause-len c =
    let bytes = c.args.bytes.now in
    let len = c.loop-len.len in
    omega (arith, suffix_len_is is_blank bytes len 0 (omega arith) c.loop-len.invariant.blanks (λ some. absurd (omega arith)))
