use Rattle.std.proofs.Common.{◌<◌, ◌∙◌, List, length, ap, arith, sym, subst}
use Rattle.std.specs.Prelude.{All}
use Rattle.std.proofs.lemmas.List.{length-map}
use Rattle.lop_core.specs.declared.records.NumberedTerm.{NumberedTerm}
use Rattle.lop_core.specs.Records.{NodeRecord, is_same}
use Rattle.lop_core.specs.Kept.{book_of, record_of}
use Rattle.lop_core.proofs.RecordLemmas.{span_record}
use Rattle.lop_core.proofs.records.Records.is_own.Goals as goal

pub is_same-requires-clause-listed : goal.is_same-requires-clause-listed
is_same-requires-clause-listed c =
    subst (λ (ts : List NumberedTerm). All (λ t. t.cut < length c.args.self.now.cuts) (record_of ts c.span.result).terms) (sym c.deref.ensures.value)
    (span_record (length c.args.self.now.cuts) c.args.self.now.terms.items (book_of c.args.self.now).records c.args.node c.span.result c.requires.kept.book.each (rw length-map (omega (arith, c.requires.inside))) c.span.ensures.record).listed

pub returns-clause-own : goal.returns-clause-own
returns-clause-own c =
    c.is_same.ensures.same ∙ ap (λ (ts : List NumberedTerm). is_same c.args.self.now.cuts (record_of ts c.span.result) c.args.shown.now) c.deref.ensures.value
    ∙ ap (λ (r : NodeRecord). is_same c.args.self.now.cuts r c.args.shown.now) c.span.ensures.record
