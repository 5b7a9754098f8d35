use Rattle.std.proofs.Common.{◌<◌, ◌≤◌, List, length, arith}
use Rattle.std.proofs.lemmas.List.{length-map}
use Rattle.lop_core.specs.Kept.{book_of}
use Rattle.std.specs.Prelude.{All, AllPairs}
use Rattle.lop_leaf.specs.Record.{IsMultiplier}
use Rattle.lop_core.specs.declared.records.NumberedTerm.{NumberedTerm}
use Rattle.lop_core.proofs.RecordLemmas.{span_record, span_part}
use Rattle.lop_core.proofs.records.Records.read.Goals as goal

pub set_scale-requires-clause-positive : goal.set_scale-requires-clause-positive
set_scale-requires-clause-positive c =
    (span_record (length c.args.self.now.cuts) c.args.self.now.terms.items (book_of c.args.self.now).records c.args.node c.span-span.result c.requires.kept.book.each (rw length-map (omega (arith, c.requires.inside))) c.span-span.ensures.record).positive

pub set_scale-requires-clause-within_limit : goal.set_scale-requires-clause-within_limit
set_scale-requires-clause-within_limit c =
    (span_record (length c.args.self.now.cuts) c.args.self.now.terms.items (book_of c.args.self.now).records c.args.node c.span-span.result c.requires.kept.book.each (rw length-map (omega (arith, c.requires.inside))) c.span-span.ensures.record).within_limit

pub read_terms-requires-clause-rising : goal.read_terms-requires-clause-rising
read_terms-requires-clause-rising c =
    span_part (λ (ts : List NumberedTerm). AllPairs (λ t u. t.cut < u.cut) ts) c.args.self.now.terms.items c.deref.result.now c.span-span.result c.deref.ensures.value
    (span_record (length c.args.self.now.cuts) c.args.self.now.terms.items (book_of c.args.self.now).records c.args.node c.span-span.result c.requires.kept.book.each (rw length-map (omega (arith, c.requires.inside))) c.span-span.ensures.record).rising

pub read_terms-requires-clause-listed : goal.read_terms-requires-clause-listed
read_terms-requires-clause-listed c =
    span_part (λ (ts : List NumberedTerm). All (λ t. t.cut < length c.args.self.now.cuts) ts) c.args.self.now.terms.items c.deref.result.now c.span-span.result c.deref.ensures.value
    (span_record (length c.args.self.now.cuts) c.args.self.now.terms.items (book_of c.args.self.now).records c.args.node c.span-span.result c.requires.kept.book.each (rw length-map (omega (arith, c.requires.inside))) c.span-span.ensures.record).listed

pub read_terms-requires-clause-multipliers : goal.read_terms-requires-clause-multipliers
read_terms-requires-clause-multipliers c =
    span_part (λ (ts : List NumberedTerm). All (λ t. IsMultiplier t.multiplier) ts) c.args.self.now.terms.items c.deref.result.now c.span-span.result c.deref.ensures.value
    (span_record (length c.args.self.now.cuts) c.args.self.now.terms.items (book_of c.args.self.now).records c.args.node c.span-span.result c.requires.kept.book.each (rw length-map (omega (arith, c.requires.inside))) c.span-span.ensures.record).multipliers

pub read_terms-requires-clause-bounded_count : goal.read_terms-requires-clause-bounded_count
read_terms-requires-clause-bounded_count c =
    span_part (λ (ts : List NumberedTerm). length ts ≤ 4096) c.args.self.now.terms.items c.deref.result.now c.span-span.result c.deref.ensures.value
    (span_record (length c.args.self.now.cuts) c.args.self.now.terms.items (book_of c.args.self.now).records c.args.node c.span-span.result c.requires.kept.book.each (rw length-map (omega (arith, c.requires.inside))) c.span-span.ensures.record).bounded_count
