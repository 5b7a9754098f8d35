use Rattle.std.proofs.Common.{◌≡◌, ◌+◌, ◌*◌, ◌∷◌, length, take, pos}
use Rattle.std.specs.List.{flat_map}
use Rattle.lop_core.specs.Records.{record_at}
use Rattle.lop_certtext.specs.RecordLine.{term_numbers}
use Rattle.lop_certwrite.specs.CoreTree.{cert_record_of}
use Rattle.lop_certwrite.proofs.record.fill_record.Given as goal

abbrev pub invariant-loop-index : goal.invariant-loop-index
invariant-loop-index l = record {
  items : l.numbers.items ≡ pos (record_at l.core.book.records l.node).scale ∷ pos (length (record_at l.core.book.records l.node).terms) ∷ flat_map term_numbers (take l.index (cert_record_of (record_at l.core.book.records l.node)).terms);
  len : length l.numbers.items ≡ 2 + 2 * l.index;
}
