use Rattle.std.proofs.Common.{◌≡◌, ◌≤◌, ◌+◌, ◌*◌, length}
use Rattle.lop_certtext.specs.Line.{numbers_of}
use Rattle.lop_certtext.specs.Reading.{pieces, behind}
use Rattle.lop_certtext.proofs.read.read_numbers.Given as goal

-- the numbers so far, then those of the rest, are those of the line; a number and its blank take two bytes
abbrev pub invariant-loop-number : goal.invariant-loop-number
invariant-loop-number l = record {
  so_far : behind l.room (numbers_of (pieces l.rest)) ≡ numbers_of (pieces l.bytes);
  few : 2 * length l.room + length l.rest ≤ length l.bytes;
}

abbrev pub decreases-loop-number : goal.decreases-loop-number
decreases-loop-number l = length l.rest
