use Rattle.std.proofs.Common.{◌≡◌, ◌++◌, take}
use Rattle.std.specs.List.{flat_map}
use Rattle.lop_certtext.specs.Reading.{number_word}
use Rattle.lop_certtext.proofs.write.put_numbers.Given as goal

abbrev pub invariant-loop-number : goal.invariant-loop-number
invariant-loop-number l = l.room ≡ l.fn.room ++ flat_map number_word (take l.number-index l.numbers)
