use Rattle.lop_certwrite.proofs.LeafLemmas.{short_line}
use Rattle.lop_certwrite.proofs.line.write_short_line.Goals as goal

pub write_line-requires-clause-short : goal.write_line-requires-clause-short
write_line-requires-clause-short g c = short_line (record { word = c.args.word; numbers = c.args.numbers.now }) c.requires.row c.requires.few
