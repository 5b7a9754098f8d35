use Rattle.std.proofs.Common.{◌≡◌, take, true}
use Rattle.std.specs.List.{list_all}
use Rattle.lop_certtext.specs.Line.{is_count}
use Rattle.lop_certtext.proofs.row.are_nonnegative.Given as goal

abbrev pub invariant-loop-number : goal.invariant-loop-number
invariant-loop-number l = list_all is_count (take l.number-index l.numbers) ≡ true
