use Rattle.std.proofs.Common.{◌≤◌, ℤ, List, length, ap, arith, to_z, of_z}
use mir.Syntax.{w128}
use Rattle.std.specs.Prelude.{filter, int_lt}
use Rattle.std.proofs.lemmas.List.Sums.{length-filter, count_by-le-length}
use Rattle.lop_core.specs.declared.candidates.Candidate.{Candidate}
use Rattle.lop_core.proofs.candidates.Candidates.drop_up_to.Goals as goal

fewer : (best : ℤ) (xs : List Candidate) → length (filter (λ (c : Candidate). int_lt best c.bound) xs) ≤ length xs
fewer best xs = omega (arith, length-filter (λ (c : Candidate). int_lt best c.bound) xs, count_by-le-length (λ (c : Candidate). int_lt best c.bound) xs)

pub put_all-requires-clause-room : goal.put_all-requires-clause-room
put_all-requires-clause-room c =
    omega (arith, ap length c.deref.ensures.value, ap length c.keep_above.ensures.kept, fewer (to_z w128 (of_z w128 c.args.best)) c.as_slice.result.now, c.as_slice.ensures.len, c.clear.ensures.capacity, c.requires.room)

pub returns-clause-count : goal.returns-clause-count
returns-clause-count c =
    omega (arith, ap length c.deref.ensures.value, ap length c.keep_above.ensures.kept, fewer (to_z w128 (of_z w128 c.args.best)) c.as_slice.result.now, c.as_slice.ensures.len, c.put_all.ensures.count)
