use Rattle.std.proofs.Common.{◌-◌, ◌∙◌, ap}
use Rattle.std.specs.Prelude.{bit_and, count_ones}
use Rattle.std.proofs.lemmas.Nat.{one_shl, and_mask}
use Rattle.lop_fix.proofs.CountedBits.{ones_low}
use Rattle.lop_fix.proofs.table.first_ones.Goals as goal

pub returns-clause-value : goal.returns-clause-value
returns-clause-value c =
    ap (λ m. count_ones (bit_and c.args.word (m - 1))) (one_shl c.args.bits 64 c.requires)
    ∙ ap count_ones (and_mask c.args.word c.args.bits)
    ∙ ones_low c.args.word c.args.bits
