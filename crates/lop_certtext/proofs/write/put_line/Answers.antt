use Rattle.lop_certtext.proofs.Lines.{line_reading-line_text}
use Rattle.lop_certtext.proofs.write.put_line.Goals as goal

pub returns-clause-read_back : goal.returns-clause-read_back
returns-clause-read_back c = line_reading-line_text record { word = c.args.word; numbers = c.args.numbers.now } c.requires.row
