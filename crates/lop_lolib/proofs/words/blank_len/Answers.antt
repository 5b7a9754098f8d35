use Rattle.std.proofs.Common.{arith, sym, ◌∙◌, length, ◌≡◌, false, get_or}
use Rattle.std.proofs.lemmas.List.Sums.{prefix_len_is}
use Rattle.lop_lolib.specs.Words.{is_separator}
use Rattle.lop_lolib.proofs.words.blank_len.Goals as goal

pub returns-then-not-is_separator-clause-len : goal.returns-then-not-is_separator-clause-len
returns-then-not-is_separator-clause-len c =
    let stop : is_separator (get_or c.args.bytes.now c.loop-i.i 0) ≡ false = sym c.is_separator.ensures ∙ c.if-not-is_separator.true in
    sym (prefix_len_is is_separator c.args.bytes.now c.loop-i.i 0 (omega arith) c.loop-i.invariant (λ _. stop))

pub returns-clause-len : goal.returns-clause-len
returns-clause-len c =
    let bytes = c.args.bytes.now in
    sym (prefix_len_is is_separator bytes (length bytes) 0 (omega arith) (λ k within. c.loop-i.invariant k (omega arith)) (λ more. absurd (omega arith)))
