use Rattle.std.proofs.Common.{arith}
use Rattle.lop_core.proofs.RecordLemmas.{span_read}
use Rattle.lop_core.proofs.records.Records.span.Goals as goal

pub returns-clause-record : goal.returns-clause-record
returns-clause-record c =
    span_read c.args.self.now.terms.items c.args.self.now.spans.items c.args.self.now.numbers.items c.args.node c.index.result.now c.index-2.result.now c.requires.kept.book.inside (omega (arith, c.requires.inside)) c.index.ensures c.index-2.ensures
