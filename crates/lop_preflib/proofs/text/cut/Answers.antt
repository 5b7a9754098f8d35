use Rattle.std.proofs.Common.{◌==◌}
use Rattle.lop_preflib.proofs.TextLemmas.{nowhere, cut_at}
use Rattle.lop_preflib.proofs.text.cut.Goals as goal

pub returns-in-Some : goal.returns-in-Some
returns-in-Some c =
    let found = c.in-Some.ensures in
    cut_at (λ b. b == c.args.byte) c.args.bytes.now c.in-Some.place found.0.high found.1 found.0.before

pub returns-in-None : goal.returns-in-None
returns-in-None c = nowhere (λ b. b == c.args.byte) c.args.bytes.now c.in-None.ensures
