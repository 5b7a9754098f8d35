use Rattle.std.proofs.Common.{◌≡◌, ◌==◌, true, length, get_or, sym, arith}
use Rattle.std.proofs.lemmas.Bool.{eq-eqb}
use Rattle.std.proofs.lemmas.List.Sums.{position_or_len_is}
use Rattle.lop_certtext.proofs.read.piece_len.Goals as goal

pub returns-then-byte-eq32-clause-len : goal.returns-then-byte-eq32-clause-len
returns-then-byte-eq32-clause-len c =
    let stop : (get_or c.args.bytes.now c.loop-i.i 0 == 32) ≡ true = eq-eqb _ 32 c.if-byte-eq32.true in
    sym (position_or_len_is (λ b. b == 32) c.args.bytes.now c.loop-i.i 0 (omega arith) c.loop-i.invariant (λ _. stop))

pub returns-clause-len : goal.returns-clause-len
returns-clause-len c =
    let bytes = c.args.bytes.now in
    sym (position_or_len_is (λ b. b == 32) bytes (length bytes) 0 (omega arith) (λ k within. c.loop-i.invariant k (omega arith)) (λ more. absurd (omega arith)))
