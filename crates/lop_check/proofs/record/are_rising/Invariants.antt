use Rattle.std.proofs.Common.{◌≡◌, ◌*◌, drop}
use Rattle.lop_certtext.specs.RecordLine.{are_rising, terms_of}
use Rattle.lop_check.proofs.record.are_rising.Given as goal

abbrev pub invariant-loop-term : goal.invariant-loop-term
invariant-loop-term l = are_rising 0 l.count (terms_of l.numbers) ≡ are_rising l.last l.count (terms_of (drop (2 * l.term) l.numbers))
