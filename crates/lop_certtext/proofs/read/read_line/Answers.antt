use Rattle.lop_certtext.proofs.Lines.{line_text-line_reading}
use Rattle.lop_certtext.proofs.read.read_line.Goals as goal

pub returns-in-Some-clause-spelled : goal.returns-in-Some-clause-spelled
returns-in-Some-clause-spelled c = line_text-line_reading c.args.bytes.now record { word = c.in-Some.word; numbers = c.read_pieces.new.room } c.in-Some.ensures
