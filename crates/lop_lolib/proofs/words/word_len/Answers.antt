use Rattle.std.proofs.Common.{arith, sym, ◌∙◌, length, ◌≡◌, true, get_or}
use Rattle.std.proofs.lemmas.List.Sums.{position_or_len_is}
use Rattle.lop_lolib.specs.Words.{is_separator}
use Rattle.lop_lolib.proofs.words.word_len.Goals as goal

pub returns-then-is_separator-clause-len : goal.returns-then-is_separator-clause-len
returns-then-is_separator-clause-len c =
    let stop : is_separator (get_or c.args.bytes.now c.loop-i.i 0) ≡ true = sym c.is_separator.ensures ∙ c.if-is_separator.true in
    sym (position_or_len_is is_separator c.args.bytes.now c.loop-i.i 0 (omega arith) c.loop-i.invariant (λ _. stop))

pub returns-clause-len : goal.returns-clause-len
returns-clause-len c =
    let bytes = c.args.bytes.now in
    sym (position_or_len_is is_separator bytes (length bytes) 0 (omega arith) (λ k within. c.loop-i.invariant k (omega arith)) (λ more. absurd (omega arith)))
