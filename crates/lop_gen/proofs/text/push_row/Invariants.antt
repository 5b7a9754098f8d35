use Rattle.std.proofs.Common.{◌≡◌, ◌++◌, [], map, take, slice_index_or}
use Rattle.std.specs.Fmt.{signed_decimal}
use Rattle.std.specs.List.{join_with_byte}
use Rattle.lop_gen.proofs.text.push_row.Given as goal

abbrev pub invariant-loop-column : goal.invariant-loop-column
invariant-loop-column l = l.text.items ≡ l.initial.text.items ++ join_with_byte 32 (map signed_decimal (take l.column (slice_index_or l.weights.rows l.row [])))
