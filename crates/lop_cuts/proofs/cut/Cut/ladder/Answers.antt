use Rattle.std.proofs.Common.{Err, map, ap}
use Rattle.std.proofs.lemmas.Result.{err_from_is_err_and}
use Rattle.lop_cuts.specs.Kind.{objects_of}
use Rattle.lop_cuts.proofs.FaultLemmas.{IsLadder-from_checks, IsLadderCount-from_checks, all_below-from_cycles}
use Rattle.lop_cuts.proofs.FaultUniqueLemmas.{ladder_fault-from_cycles, ladder_fault_unique, ladder_fault_excludes, each_below-from_cycles, each_below-from_fit}
use Rattle.lop_cuts.proofs.cut.Cut.ladder.Goals as goal

pub invariant_of-result : goal.invariant_of-result
invariant_of-result c =
    rw c.list_of.ensures (IsLadder-from_checks _ c.args.cycles.now c.if-cycles-lt3.false c.if-cycles-gt9.false c.if-cycles-eq0.false c.in_ok-check_cycles.ensures.ok)

pub returns-clause-cut : goal.returns-clause-cut
returns-clause-cut c =
    rw c.list_of.ensures (IsLadder-from_checks _ c.args.cycles.now c.if-cycles-lt3.false c.if-cycles-gt9.false c.if-cycles-eq0.false c.in_ok-check_cycles.ensures.ok)

pub returns-clause-fits : goal.returns-clause-fits
returns-clause-fits c =
    rw c.list_of.ensures (all_below-from_cycles _ c.args.cycles.now c.in_ok-check_cycles.ensures.ok)

pub returns-clause-exact : goal.returns-clause-exact
returns-clause-exact c =
    let lists = map objects_of c.args.cycles.now in
    let cycles = c.in_ok-check_cycles.ensures.ok in
    let right = IsLadder-from_checks _ c.args.cycles.now c.if-cycles-lt3.false c.if-cycles-gt9.false c.if-cycles-eq0.false cycles in
    λ e h. absurd (ladder_fault_excludes c.args.n lists e h right (each_below-from_cycles c.args.n lists cycles))

pub returns-in_err-check_cycles-clause-exact : goal.returns-in_err-check_cycles-clause-exact
returns-in_err-check_cycles-clause-exact c =
    let p = err_from_is_err_and c.from_residual.result c.from_residual.ensures.1 in
    let lists = map objects_of c.args.cycles.now in
    let count = IsLadderCount-from_checks c.args.cycles.now c.if-cycles-lt3.false c.if-cycles-gt9.false c.if-cycles-eq0.false in
    let here = ladder_fault-from_cycles c.args.n lists _ count c.in_err-check_cycles.ensures.err in
    λ e h. rw (p.1, p.2) (ap (λ x. Err x) (ladder_fault_unique c.args.n lists _ e here h))

pub returns-in_err-check_cycles-clause-accepts : goal.returns-in_err-check_cycles-clause-accepts
returns-in_err-check_cycles-clause-accepts c =
    let lists = map objects_of c.args.cycles.now in
    let count = IsLadderCount-from_checks c.args.cycles.now c.if-cycles-lt3.false c.if-cycles-gt9.false c.if-cycles-eq0.false in
    let here = ladder_fault-from_cycles c.args.n lists _ count c.in_err-check_cycles.ensures.err in
    λ right fits. absurd (ladder_fault_excludes c.args.n lists _ here right (each_below-from_fit c.args.n c.args.cycles.now fits))
