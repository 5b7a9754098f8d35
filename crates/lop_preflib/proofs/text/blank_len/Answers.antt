use Rattle.std.proofs.Common.{arith, sym, ◌∙◌, length, ◌≡◌, false, get_or}
use Rattle.std.proofs.lemmas.List.Sums.{prefix_len_is}
use Rattle.lop_preflib.specs.Text.{is_blank}
use Rattle.lop_preflib.proofs.text.blank_len.Goals as goal

pub returns-then-not-is_blank-clause-len : goal.returns-then-not-is_blank-clause-len
returns-then-not-is_blank-clause-len c =
    let stop : is_blank (get_or c.args.bytes.now c.loop-i.i 0) ≡ false = sym c.is_blank.ensures ∙ c.if-not-is_blank.true in
    sym (prefix_len_is is_blank c.args.bytes.now c.loop-i.i 0 (omega arith) c.loop-i.invariant (λ _. stop))

pub returns-clause-len : goal.returns-clause-len
returns-clause-len c =
    let bytes = c.args.bytes.now in
    sym (prefix_len_is is_blank bytes (length bytes) 0 (omega arith) (λ k within. c.loop-i.invariant k (omega arith)) (λ more. absurd (omega arith)))
