use Rattle.std.proofs.Common.{◌≡◌, ℕ, length, take, true, sym, ap, arith}
use Rattle.std.proofs.lemmas.List.{take_all}
use Rattle.std.proofs.lemmas.List.Sums.{position_or_len_is}
use Rattle.std.proofs.lemmas.Grind.{common_steps}
use Rattle.std.specs.List.{position_or_len}
use Rattle.lop_lolib.specs.Title.{is_line_end}
use Rattle.lop_lolib.proofs.heading.to_line_end.Goals as goal

is_lf : (b : ℕ) → b ≡ 10 → is_line_end b ≡ true
is_lf b e = grind (arith, common_steps)

pub returns-then-byte-eq10-clause-line : goal.returns-then-byte-eq10-clause-line
returns-then-byte-eq10-clause-line c =
    let bytes = c.args.bytes.now in
    let at : position_or_len is_line_end bytes ≡ c.loop-i.i = position_or_len_is is_line_end bytes c.loop-i.i 0 (omega arith) c.loop-i.invariant (λ _. is_lf _ c.if-byte-eq10.true) in
    ap (λ (k : ℕ). take k bytes) (sym at)

pub returns-clause-line : goal.returns-clause-line
returns-clause-line c =
    let bytes = c.args.bytes.now in
    let at : position_or_len is_line_end bytes ≡ length bytes = position_or_len_is is_line_end bytes (length bytes) 0 (omega arith) (λ k within. c.loop-i.invariant k (omega arith)) (λ more. absurd (omega arith)) in
    sym (take_all (position_or_len is_line_end bytes) bytes (omega arith))
