use Rattle.std.proofs.Common.{◌==◌, ◌||◌, sym}
use Rattle.lop_preflib.proofs.TextLemmas.{nowhere, cut_at}
use Rattle.lop_preflib.proofs.text.has_either.Goals as goal

pub returns-in-Some : goal.returns-in-Some
returns-in-Some c =
    let found = c.in-Some.ensures in
    sym (cut_at (λ b. b == c.args.first || b == c.args.second) c.args.bytes.now c.in-Some.field-0 found.0.high found.1 found.0.before).0

pub returns-in-None : goal.returns-in-None
returns-in-None c = sym (nowhere (λ b. b == c.args.first || b == c.args.second) c.args.bytes.now c.in-None.ensures)
